-- What the engine counts on when it runs stages, and what lies in the halves between them.
use Rattle.std.specs.Prelude.{◌≡◌, ℕ, ◌*◌, ◌<◌, ◌≤◌, Bool, true, List, [], ◌∷◌}
use Rattle.image.specs.Rows.{rows}
use Rattle.image.specs.declared.source_rows.SourceRows.{SourceRows}
use Rattle.image.specs.declared.image_size.ImageSize.{ImageSize}
use Rattle.planner.specs.declared.stage.Stage.{Stage}
use Rattle.planner.specs.Chains.{WellSized}
use Rattle.planner.specs.Plans.{needs_kernel, work_by, area}
use Rattle.resampling.specs.declared.multi_step_plan.Settings.{Settings}

-- the rows of an image of a size
pub record RowsOf {T : Type 0} (c : ℕ) (s : ImageSize) (r : SourceRows T) : Type 0 where
  pub width : r.row_length ≡ s.width * c
  pub height : r.height ≡ s.height

-- a stage may run by these settings with a work buffer of so many elements
pub record Runnable {F : Type 0} (deep : Bool) (o : Settings F) (work : ℕ) (st : Stage) : Type 0 where
  pub sized : WellSized st
  pub some_channels : 0 < o.channels
  pub few_channels : o.channels ≤ 4
  pub depth : needs_kernel st.kind ≡ true → deep ≡ true → (1 ≤ o.depth) × (o.depth ≤ 16)
  pub enough : work_by st.kind o.route o.channels st ≤ work

-- each stage of a list may
abbrev pub AllRunnable : {F : Type 0} → Bool → Settings F → ℕ → List Stage → Type 0
AllRunnable deep o work [] = Unit {0}
AllRunnable deep o work (st ∷ sts) = Runnable deep o work st × AllRunnable deep o work sts

-- each stage's image has room in a half of so many elements
abbrev pub Roomy : ℕ → ℕ → List Stage → Type 0
Roomy c half [] = Unit {0}
Roomy c half (st ∷ sts) = (area c st.target ≤ half) × Roomy c half sts

-- where a list of stages that begins at s ends
abbrev pub end_of : ImageSize → List Stage → ImageSize
end_of s [] = s
end_of s (st ∷ sts) = end_of st.target sts

module _ {E : Type 0} where
  -- the image without gaps of a size at the front of a buffer
  abbrev pub packed : ℕ → ImageSize → List E → List (List E)
  packed c s xs = rows xs (s.width * c) (s.width * c) s.height
