-- The stages that are still to come.
use Rattle.std.specs.Prelude.{List}
use Rattle.planner.specs.declared.stage.Stage.{Stage}
use Rattle.planner.specs.declared.stages.Stages.{Stages}
use Rattle.planner.specs.Strategies.{stages_left}

abbrev pub left : Stages → List Stage
left s = stages_left s.strategy s.function s.at s.target
