use Rattle.std.proofs.Common.{◌≡◌, ◌+◌}
use Rattle.image.specs.Images.{image_of}
use Rattle.image.specs.Rows.{painted}
use Rattle.convolution.specs.Meaning.{source_row, column_value}
use Rattle.resampling.proofs.run.Run.run_on_4_columns.Given as goal

abbrev pub invariant-loop-i : goal.invariant-loop-i
invariant-loop-i g l = l.work ≡ painted l.initial.work (source_row l.self.options) (λ i. column_value (g.F.KernelFamily.meaning l.self.family.now) l.self.options (image_of l.self.src.now) (l.y + i)) l.i
