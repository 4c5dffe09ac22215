use Rattle.std.proofs.Common.{◌≡◌, ◌++◌, drop}
use Rattle.image.specs.Rows.{joined}
use Rattle.lines.specs.Lines.{line}
use Rattle.lines.proofs.lines.LinesKernelFamily.run_on_column.Given as goal

abbrev pub invariant-loop-j : goal.invariant-loop-j
invariant-loop-j g l =
    l.dst ≡ joined (λ j. g.K.LineKernel.value (line l.src.elements.now j l.src.stride l.axis.source) l.axis.target l.row) l.j ++ drop l.j l.initial.dst
