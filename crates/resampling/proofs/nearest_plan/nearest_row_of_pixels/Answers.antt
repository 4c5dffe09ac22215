use Rattle.std.proofs.Common.{◌≡◌, ap, ◌∙◌, arith}
use Rattle.image.specs.Rows.{painted}
use Rattle.image.proofs.Full.{painted_full}
use Rattle.resampling.proofs.Taken.{pixel_length}
use Rattle.resampling.proofs.nearest_plan.nearest_row_of_pixels.Goals as goal

pub returns : goal.returns
returns g c =
    let a = c.args.across.now.axis in
    let all : c.loop-x.x ≡ a.target = omega arith in
    c.loop-x.invariant
    ∙ (ap (painted c.args.dst.now g.row.N _) all
    ∙ painted_full c.args.dst.now g.row.N _ a.target (pixel_length c.args.src.now a.source a.target g.row.N a.lengths.0.0 c.requires.source) c.requires.target)
