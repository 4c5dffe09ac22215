use Rattle.std.proofs.Common.{◌≡◌, ◌*◌}
use Rattle.image.specs.Images.{image_of}
use Rattle.image.specs.Rows.{painted}
use Rattle.resampling.specs.Runs.{both_row}
use Rattle.resampling.proofs.run.Run.trampoline_filter.Given as goal

abbrev pub invariant-loop-batch : goal.invariant-loop-batch
invariant-loop-batch g l = l.dst ≡ painted l.initial.dst l.dst_stride (both_row (g.F.KernelFamily.meaning l.self.family.now) l.self.options (image_of l.self.src.now)) (4 * l.batch)

abbrev pub invariant-loop-y : goal.invariant-loop-y
invariant-loop-y g l = l.dst ≡ painted l.fn.dst l.dst_stride (both_row (g.F.KernelFamily.meaning l.self.family.now) l.self.options (image_of l.self.src.now)) l.y
