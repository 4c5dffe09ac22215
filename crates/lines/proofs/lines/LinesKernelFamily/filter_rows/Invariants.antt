use Rattle.std.proofs.Common.{◌≡◌, ◌%◌, ◌≤◌}
use Rattle.image.specs.Rows.{painted}
use Rattle.image.specs.Images.{image_of}
use Rattle.convolution.specs.Meaning.{row_value}
use Rattle.lines.specs.Lines.{line_meaning}
use Rattle.lines.proofs.lines.LinesKernelFamily.filter_rows.Given as goal

abbrev pub invariant-loop-y : goal.invariant-loop-y
invariant-loop-y g l =
    (l.y ≤ l.whole)
    × ((l.y % 4 ≡ 0)
    × (l.dst ≡ painted l.fn.dst l.dst_stride (row_value (line_meaning g.K.LineKernel.knows g.K.LineKernel.value) l.options (image_of l.src)) l.y))

abbrev pub invariant-loop-y-2 : goal.invariant-loop-y-2
invariant-loop-y-2 g l =
    l.dst ≡ painted l.fn.dst l.dst_stride (row_value (line_meaning g.K.LineKernel.knows g.K.LineKernel.value) l.options (image_of l.src)) l.y
