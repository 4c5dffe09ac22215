use Rattle.std.proofs.Common.{refl, ◌+◌, ◌*◌, ◌∙◌, arith}
use Rattle.span.proofs.Sums.{rounded_up}
use Rattle.span.proofs.mean.span_bounds.Goals as goal

pub returns : goal.returns
returns c =
    let n = c.from-n in
    let m = c.from-m in
    let x = c.from-x in
    let high = c.div_ceil.ensures ∙ rounded_up ((x.result + 1) * n.result) m.result (omega (arith, c.if-m-eq0.false)) in
    rw (high, n.ensures, m.ensures, x.ensures) refl
