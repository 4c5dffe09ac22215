use Rattle.std.proofs.Common.{◌+◌, ◌-◌, length, sum_by, sym, ap, ◌∙◌, arith, rules}
use Rattle.image.specs.Rows.{part}
use Rattle.lines.specs.Along.{line_of}
use Rattle.levels.proofs.Along.{place_fits, length-line, get_or-line}
use Rattle.span.proofs.Sums.{sum_more, most_more}
use Rattle.span.proofs.mean.sum_between.Goals as goal

pub offset_bounds-line-line : goal.offset_bounds-line-line
offset_bounds-line-line g c =
    let l = c.args.line.now in
    let p = place_fits c.loop-i.i l.axis.source l.start l.step (length l.elements.now) (omega arith) l.within in
    search rules

pub loop-i-preserved : goal.loop-i-preserved
loop-i-preserved g c =
    let t = g.T.Level in
    let l = c.args.line.now in
    let xs = l.elements.now in
    let n = l.axis.source in
    let low = c.args.low in
    let i = c.loop-i.i in
    let x = c.index-line-line in
    let wide = c.wide-sum in
    let long = length-line xs l.start l.step n l.within in
    let here = sym (get_or-line xs l.start l.step n l.within i x.result (omega arith)) in
    let so_far = sum_by t.level (part low (i - low) (line_of l)) in
    let v = wide.ensures.value ∙ ap t.level here in record {
      value =
          ap (λ s. s + wide.result) {y = so_far} c.loop-i.invariant.value
          ∙ ap (λ w. so_far + w) v
          ∙ sym (sum_more t.level (line_of l) low i x.result c.loop-i.auto.i (omega arith));
      bound = most_more t.MOST low i c.loop-i.sum wide.result c.loop-i.auto.i c.loop-i.invariant.bound wide.ensures.bound;
    }
