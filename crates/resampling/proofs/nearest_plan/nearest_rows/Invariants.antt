use Rattle.std.proofs.Common.{◌≡◌}
use Rattle.image.specs.Images.{image_of}
use Rattle.image.specs.Rows.{row, painted}
use Rattle.values.specs.Nearest.{nearest_image}
use Rattle.resampling.proofs.nearest_plan.nearest_rows.Given as goal

abbrev pub invariant-loop-y : goal.invariant-loop-y
invariant-loop-y g l = l.dst ≡ painted l.initial.dst l.dst_stride (row (nearest_image l.fn.channels l.fn.source l.fn.target (image_of l.src))) l.y
