use Rattle.std.proofs.Common.{◌≡◌}
use Rattle.image.specs.Images.{image_of}
use Rattle.image.specs.Rows.{row, painted}
use Rattle.resampling.proofs.multi_step_plan.copy_rows.Given as goal

abbrev pub invariant-loop-y : goal.invariant-loop-y
invariant-loop-y g l = l.dst ≡ painted l.initial.dst l.dst_stride (row (image_of l.src)) l.y
