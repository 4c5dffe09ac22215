use Rattle.std.proofs.Common.{ap, ◌∙◌, arith}
use Rattle.tent.proofs.Bounds.{blend_is}
use Rattle.tent.proofs.blend.RoundedBlend.blend.Goals as goal

pub returns : goal.returns
returns g c =
    let t = g.T.Level in
    let a = c.args in
    c.narrow.ensures ∙ ap t.of (blend_is c.wide.result c.wide-2.result (t.level a.a) (t.level a.b) a.m a.f t.MOST c.rounded_blend.result c.wide.ensures.value c.wide-2.ensures.value c.wide.ensures.bound c.wide-2.ensures.bound (omega arith) (omega arith) c.rounded_blend.ensures)
