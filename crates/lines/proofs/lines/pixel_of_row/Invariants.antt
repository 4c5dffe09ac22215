use Rattle.std.proofs.Common.{◌≡◌, ◌++◌, drop}
use Rattle.image.specs.Rows.{joined}
use Rattle.lines.specs.Lines.{line}
use Rattle.lines.proofs.lines.pixel_of_row.Given as goal

abbrev pub invariant-loop-k : goal.invariant-loop-k
invariant-loop-k g l =
    l.out-items ≡ joined (λ k. g.K.LineKernel.value (line l.row k g.row.N l.axis.source) l.axis.target l.x) l.k ++ drop l.k l.initial.out-items
