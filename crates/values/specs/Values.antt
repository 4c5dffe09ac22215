-- What a stage makes of an image, and a plan of its stages.
use Rattle.std.specs.Prelude.{ℕ, List, [], ◌∷◌}
use Rattle.image.specs.Rows.{row, listed}
use Rattle.convolution.specs.Meaning.{Meaning}
use Rattle.planner.specs.declared.stage.Stage.{Stage}
use Rattle.planner.specs.declared.stage.StageKind.{StageKind}
use Rattle.planner.specs.declared.stage.StageKind.TheVariants.{Copied, Sampled, Vertical, Horizontal, Both}
use Rattle.values.specs.Nearest.{nearest_image}

module _ {E : Type 0} (m : Meaning E) (c depth : ℕ) where
  -- column values to the target's height, of all rows
  abbrev pub vertical : Stage → List (List E) → List (List E)
  vertical st im = listed (λ y. m.column st.function c im st.target.height y depth) st.target.height

  -- row values to the target's width, of each row
  abbrev pub horizontal : Stage → List (List E) → List (List E)
  horizontal st im = listed (λ y. m.across st.function c (row im y) st.target.width depth) st.target.height

  abbrev pub value_by : StageKind → Stage → List (List E) → List (List E)
  value_by Copied st im = im
  value_by Sampled st im = nearest_image c st.source st.target im
  value_by Vertical st im = vertical st im
  value_by Horizontal st im = horizontal st im
  value_by Both st im = horizontal st (vertical st im)

  abbrev pub stage_value : Stage → List (List E) → List (List E)
  stage_value st im = value_by st.kind st im

  -- stage after stage, each of the image before it
  abbrev pub composed : List Stage → List (List E) → List (List E)
  composed [] im = im
  composed (st ∷ sts) im = composed sts (stage_value st im)
