use mathlib.Core.Path.{◌≡◌}
use Rattle.image.specs.Rows.{painted}
use Rattle.image.specs.Images.{image_of}
use Rattle.convolution.specs.Meaning.{column_value}
use Rattle.convolution.proofs.convolution.KernelFamily.filter_columns.Given as goal

abbrev pub invariant-loop-y : goal.invariant-loop-y
invariant-loop-y g l = l.dst ≡ painted l.initial.dst l.dst_stride (column_value (g.Self.KernelFamily.meaning l.self) l.options (image_of l.src)) l.y
