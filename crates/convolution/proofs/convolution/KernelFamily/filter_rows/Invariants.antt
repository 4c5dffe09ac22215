use mathlib.Core.Path.{◌≡◌}
use Rattle.image.specs.Rows.{painted}
use Rattle.image.specs.Images.{image_of}
use Rattle.convolution.specs.Meaning.{row_value}
use Rattle.convolution.proofs.convolution.KernelFamily.filter_rows.Given as goal

abbrev pub invariant-loop-y : goal.invariant-loop-y
invariant-loop-y g l = l.dst ≡ painted l.initial.dst l.dst_stride (row_value (g.Self.KernelFamily.meaning l.self) l.options (image_of l.src)) l.y
