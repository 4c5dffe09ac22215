-- What a stage's run makes of an image, and what it leaves in its destination.
use Rattle.std.specs.Prelude.{ℕ, List}
use Rattle.image.specs.Rows.{row, painted}
use Rattle.convolution.specs.Meaning.{Meaning, column_value}
use Rattle.convolution.specs.declared.convolution.ConvolutionOptions.{ConvolutionOptions}
use Rattle.planner.specs.Plans.{both_work}
use Rattle.planner.specs.declared.scaler.Route.{Route}
use Rattle.planner.specs.declared.stage.Stage.{Stage}
use Rattle.planner.specs.declared.stage.StageKind.{StageKind}
use Rattle.planner.specs.declared.stage.StageKind.TheVariants.{Both}
use Rattle.values.specs.Values.{stage_value}

-- the stage that a run is told of
abbrev pub told : StageKind → ConvolutionOptions → Stage
told k o = record { kind = k; function = o.function; source = o.src_size; target = o.dst_size }

-- the work buffer of a run on both axes
abbrev pub run_work : Route → ConvolutionOptions → ℕ
run_work r o = both_work r o.channels (told Both o)

module _ {E : Type 0} (m : Meaning E) (o : ConvolutionOptions) (im : List (List E)) where
  -- the image that a stage makes
  abbrev pub stage_image : StageKind → List (List E)
  stage_image k = stage_value m o.channels o.bit_depth (told k o) im

  -- the destination after it
  abbrev pub stage_painted : StageKind → List E → ℕ → List E
  stage_painted k dst t = painted dst t (row (stage_image k)) o.dst_size.height

  -- row y of a stage on both axes: the row value of the column value
  abbrev pub both_row : ℕ → List E
  both_row y = m.across o.function o.channels (column_value m o im y) o.dst_size.width o.bit_depth
