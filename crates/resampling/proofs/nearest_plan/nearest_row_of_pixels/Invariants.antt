use Rattle.std.proofs.Common.{◌≡◌, ◌*◌}
use Rattle.image.specs.Rows.{part, painted}
use Rattle.values.specs.Nearest.{nearest}
use Rattle.resampling.proofs.nearest_plan.nearest_row_of_pixels.Given as goal

abbrev pub invariant-loop-x : goal.invariant-loop-x
invariant-loop-x g l = l.dst ≡ painted l.initial.dst g.row.N (λ x. part (nearest l.across.axis.source l.across.axis.target x * g.row.N) g.row.N l.src) l.x
