use Rattle.std.proofs.Common.{ap, arith}
use Rattle.lines.specs.Along.{line_of}
use Rattle.levels.proofs.Along.{length-line}
use Rattle.span.proofs.Sums.{some, within, value_is}
use Rattle.span.proofs.mean.MeanLineKernel.element.Goals as goal

pub mean_between-requires : goal.mean_between-requires
mean_between-requires g c =
    let a = c.args in
    let axis = a.line.now.axis in
    let e = c.requires.place in
    let low = ap (λ q. q.0) e in
    let high = ap (λ q. q.1) e in (
      omega (arith, low, high, some axis.source axis.target a.x (omega (arith, axis.lengths)) (omega (arith, axis.lengths))),
      omega (arith, high, within axis.source axis.target a.x c.requires.output),
    )

pub returns : goal.returns
returns g c =
    let t = g.T.Level in
    let a = c.args in
    let l = a.line.now in
    let axis = l.axis in
    let long = length-line l.elements.now l.start l.step axis.source l.within in
    value_is t.level t.of (line_of l) axis.source axis.target a.x a.place c.mean_between.result long c.requires.place c.mean_between.ensures
