use Rattle.std.proofs.Common.{◌≡◌, refl, ap, ◌∙◌, arith, rules}
use Rattle.image.specs.Rows.{painted}
use Rattle.image.proofs.Paint.{painted_none, painted_more}
use Rattle.image.proofs.Full.{painted_full}
use Rattle.lines.specs.OfLines.{length-pixel}
use Rattle.lines.proofs.lines.row_of_pixels.Goals as goal

pub loop-x-init : goal.loop-x-init
loop-x-init g c = painted_none _ _ _

pub loop-x-preserved : goal.loop-x-preserved
loop-x-preserved g c =
    painted_more c.args.dst.now c.loop-x.dst c.copy_from_slice.new.self g.row.N c.loop-x.x _ _ _ c.loop-x.invariant refl (c.copy_from_slice.ensures.after ∙ c.pixel_of_row-pixel.ensures) (search rules)

pub returns : goal.returns
returns g c =
    let a = c.args.axis.now in
    let all : c.loop-x.x ≡ a.target = omega arith in
    c.loop-x.invariant
    ∙ (ap (painted c.args.dst.now g.row.N _) all
    ∙ painted_full c.args.dst.now g.row.N _ a.target (λ x _. length-pixel g.K.LineKernel.value g.met.K.LineKernel.one c.args.row.now g.row.N a.source a.target x a.lengths.0.0 c.requires.source) c.requires.target)
