use Rattle.std.proofs.Common.{◌≡◌, ◌-◌, ◌*◌, ◌≤◌, sum_by}
use Rattle.image.specs.Rows.{part}
use Rattle.lines.specs.Along.{line_of}
use Rattle.span.proofs.mean.sum_between.Given as goal

abbrev pub invariant-loop-i : goal.invariant-loop-i
invariant-loop-i g l = record {
  value : l.sum ≡ sum_by g.T.Level.level (part l.low (l.i - l.low) (line_of l.line));
  bound : l.sum ≤ g.T.Level.MOST * (l.i - l.low);
}
