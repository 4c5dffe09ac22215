use mathlib.Core.Path.{refl}
use Rattle.image.specs.Stores.{source_answer}
use Rattle.image.specs.Rows.{listed, joined}
use Rattle.lines.specs.Lines.{line, column_line}
use Rattle.planner.specs.Stages.{growing, stages_of}
use Rattle.values.specs.Nearest.{nearest}
use Rattle.examples.specs.Worked.{Worked}
use Rattle.examples.proofs.worked_examples.Goals as goal

worked : Worked
unfolding source_answer nearest stages_of growing listed joined line column_line
worked = record {
  buffer_passes = refl;
  buffer_short = refl;
  stride_short = refl;
  nearest_up = refl;
  nearest_down = refl;
  mean = refl;
  tent = refl;
  both_axes = refl;
  enlarged = refl;
  uneven = refl;
  reduced_by_nearest = refl;
  reduced_by_box = refl;
  reduced_at_once = refl;
}

pub returns : goal.returns
returns c = worked
