-- What is true of the stages of every plan: how many there are, how they are linked, and what sizes they have.
use Rattle.std.specs.Prelude.{◌≡◌, ℕ, zero, suc, ◌+◌, ◌*◌, ◌/◌, ◌<◌, ◌≤◌, List, [], ◌∷◌, length, slice_index_or}
use Rattle.image.specs.declared.image_size.ImageSize.{ImageSize}
use Rattle.convolution.specs.Meaning.{Dimension}
use Rattle.planner.specs.declared.stage.Stage.{Stage}
use Rattle.planner.specs.declared.stage.StageKind.{StageKind}
use Rattle.planner.specs.declared.stage.StageKind.TheVariants.{Copied, Sampled, Vertical, Horizontal, Both}

-- a size of an image that is resized
abbrev pub Dimensions : ImageSize → Type 0
Dimensions s = Dimension s.width × Dimension s.height

-- the first stage begins at s, each later one where the one before ended, and the last ends at t
abbrev pub Linked : ImageSize → ImageSize → List Stage → Type 0
Linked s t [] = s ≡ t
Linked s t (st ∷ sts) = (st.source ≡ s) × Linked st.target t sts

-- v after k stages at the smallest ratio, 3/2, rounded up each time
unfoldable pub climbed : ℕ → ℕ → ℕ
climbed zero v = v
climbed (suc k) v = climbed k ((v * 3 + 1) / 2)

-- what the smallest size has grown to after k stages
abbrev pub least : ℕ → ℕ
least k = climbed k 1

-- the most stages of a plan
abbrev pub stage_limit : ℕ
stage_limit = 27

-- the dimensions that a kind of stage leaves as they are
abbrev pub Kept : StageKind → ImageSize → ImageSize → Type 0
Kept Copied s t = (s.width ≡ t.width) × (s.height ≡ t.height)
Kept Sampled s t = Unit {0}
Kept Vertical s t = s.width ≡ t.width
Kept Horizontal s t = s.height ≡ t.height
Kept Both s t = Unit {0}

pub record WellSized (st : Stage) : Type 0 where
  pub source : Dimensions st.source
  pub target : Dimensions st.target
  pub kept : Kept st.kind st.source st.target

-- every stage of a list
abbrev pub Each : (Stage → Type 0) → List Stage → Type 0
Each P sts = (k : ℕ) (d : Stage) → k < length sts → P (slice_index_or sts k d)

pub record Chain (s t : ImageSize) (sts : List Stage) : Type 0 where
  pub some : 1 ≤ length sts
  pub few : length sts ≤ stage_limit
  pub linked : Linked s t sts
  pub sized : Each WellSized sts
