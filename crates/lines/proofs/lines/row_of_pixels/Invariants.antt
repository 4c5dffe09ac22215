use Rattle.std.proofs.Common.{◌≡◌}
use Rattle.image.specs.Rows.{painted}
use Rattle.lines.specs.Along.{pixel}
use Rattle.lines.proofs.lines.row_of_pixels.Given as goal

abbrev pub invariant-loop-x : goal.invariant-loop-x
invariant-loop-x g l =
    l.dst ≡ painted l.initial.dst g.row.N (pixel g.K.LineKernel.value l.row g.row.N l.axis.source l.axis.target) l.x
