use Rattle.std.proofs.Common.{◌≡◌, ◌-◌, length, ap, ◌∙◌, arith, rules}
use Rattle.std.proofs.lemmas.List.{places}
use Rattle.image.specs.Rows.{part}
use Rattle.lines.specs.Along.{line_of}
use Rattle.levels.proofs.Along.{length-line}
use Rattle.span.proofs.Sums.{mean_is}
use Rattle.span.proofs.mean.mean_between.Goals as goal

pub returns : goal.returns
returns g c =
    let t = g.T.Level in
    let a = c.args in
    let l = a.line.now in
    let whole = length-line l.elements.now l.start l.step l.axis.source l.within in
    let k = a.high - a.low in
    let long : k ≡ length (part a.low k (line_of l)) = search (rules, places) in
    let sum = c.sum_between-sum in
    c.narrow.ensures ∙ ap t.of (mean_is t.level (part a.low k (line_of l)) sum.result k t.MOST c.rounded_mean.result sum.ensures.value long (omega arith) sum.ensures.bound c.rounded_mean.ensures)
