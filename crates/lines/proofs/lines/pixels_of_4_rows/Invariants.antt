use Rattle.std.proofs.Common.{◌≡◌}
use Rattle.image.specs.Rows.{row, painted}
use Rattle.lines.specs.Along.{lent, pixel}
use Rattle.lines.proofs.lines.pixels_of_4_rows.Given as goal

abbrev pub invariant-loop-i : goal.invariant-loop-i
invariant-loop-i g l =
    l.dst ≡ painted l.initial.dst l.dst_stride (λ i. pixel g.K.LineKernel.value (row (lent l.rows) i) g.row.N l.axis.source l.axis.target l.x) l.i
