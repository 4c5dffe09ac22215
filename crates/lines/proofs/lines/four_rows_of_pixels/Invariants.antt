use Rattle.std.proofs.Common.{◌≡◌}
use Rattle.image.specs.Rows.{row, joined, painted}
use Rattle.image.specs.Images.{image_of}
use Rattle.lines.specs.Along.{pixel}
use Rattle.lines.proofs.lines.four_rows_of_pixels.Given as goal

abbrev pub invariant-loop-x : goal.invariant-loop-x
invariant-loop-x g l =
    l.dst ≡ painted l.initial.dst l.dst_stride (λ i. joined (pixel g.K.LineKernel.value (row (image_of l.src) i) g.row.N l.axis.source l.axis.target) l.x) 4
