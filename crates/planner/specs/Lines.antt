-- The line of a stage, as programs print it.
use Rattle.std.specs.Prelude.{ℕ, List, [], ◌∷◌, ◌++◌, codes}
use Rattle.std.specs.Fmt.{decimal}
use Rattle.image.specs.declared.image_size.ImageSize.{ImageSize}
use Rattle.planner.specs.declared.stage.Stage.{Stage}
use Rattle.planner.specs.Stages.{letter_of}

-- a size, after a space: its width, a space and its height
abbrev pub size_text : ImageSize → List ℕ
size_text s = codes " " ++ decimal s.width ++ codes " " ++ decimal s.height

-- the letter, the source and the target
abbrev pub stage_line : Stage → List ℕ
stage_line st = (letter_of st.kind ∷ []) ++ size_text st.source ++ size_text st.target
