use Rattle.std.proofs.Common.{◌≡◌, ◌++◌}
use Rattle.planner.specs.Stages.{stages_of}
use Rattle.planner.specs.Left.{left}
use Rattle.planner.proofs.default_planner.table.Given as goal

abbrev pub invariant-loop-stage : goal.invariant-loop-stage
invariant-loop-stage l = l.steps.items ++ left l.stage-iterator ≡ stages_of l.task.scaler l.task.source l.task.target
