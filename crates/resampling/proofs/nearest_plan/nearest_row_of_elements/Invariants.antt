use Rattle.std.proofs.Common.{◌≡◌, ℕ, ◌<◌, get_or}
use Rattle.values.specs.Nearest.{nearest}
use Rattle.resampling.proofs.nearest_plan.nearest_row_of_elements.Given as goal

abbrev pub invariant-loop-x : goal.invariant-loop-x
invariant-loop-x g l = (j : ℕ) (d : g.row.T.Denot) → j < l.x → get_or l.dst j d ≡ get_or l.src (nearest l.across.axis.source l.across.axis.target j) d
