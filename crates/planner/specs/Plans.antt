-- What a plan holds, and when planning is refused.
use Rattle.std.specs.List.{list_any}
use Rattle.std.specs.Prelude.{ℕ, ◌*◌, max, Bool, true, false, cond, not, ◌&&◌, ◌||◌, List, [], ◌∷◌, ◌++◌, ◌==◌, nat_lt}
use Rattle.image.specs.declared.image_size.ImageSize.{ImageSize}
use Rattle.image.specs.Refusals.{Answer, Check, check, answer}
use Rattle.sampler.specs.declared.sampler.ResamplingFunction.{ResamplingFunction}
use Rattle.convolution.specs.Meaning.{dimension_limit}
use Rattle.planner.specs.declared.scaler.Route.{Route}
use Rattle.planner.specs.declared.scaler.Route.TheVariants.{Single, Whole}
use Rattle.planner.specs.declared.scaler.Scaler.{Scaler}
use Rattle.planner.specs.declared.stage.Stage.{Stage}
use Rattle.planner.specs.declared.stage.StageKind.{StageKind}
use Rattle.planner.specs.declared.stage.StageKind.TheVariants.{Copied, Sampled, Vertical, Horizontal, Both}
use Rattle.planner.specs.Stages.{stages_of}

-- the stages that use a kernel
abbrev pub needs_kernel : StageKind → Bool
needs_kernel Copied = false
needs_kernel Sampled = false
needs_kernel Vertical = true
needs_kernel Horizontal = true
needs_kernel Both = true

-- a stage asks for a kernel by a function that is not known
abbrev pub asks_unknown : (ResamplingFunction → Bool) → Stage → Bool
asks_unknown knows st = needs_kernel st.kind && not (knows st.function)

-- some stage does
abbrev pub some_unknown : (ResamplingFunction → Bool) → List Stage → Bool
some_unknown knows = list_any (asks_unknown knows)

abbrev pub limit_check : ℕ → Check
limit_check v = check (nat_lt dimension_limit v) 14 (v ∷ [])

abbrev pub size_checks : ℕ → ImageSize → ImageSize → List Check
size_checks c s t =
    check (c == 0 || nat_lt 4 c) 12 (c ∷ [])
    ∷ check ((s.width == 0 || s.height == 0) || (t.width == 0 || t.height == 0)) 1 []
    ∷ limit_check s.width
    ∷ limit_check s.height
    ∷ limit_check t.width
    ∷ limit_check t.height
    ∷ []

abbrev pub plan_checks : (ResamplingFunction → Bool) → Scaler → ℕ → ImageSize → ImageSize → List Check
plan_checks knows o c s t = size_checks c s t ++ check (some_unknown knows (stages_of o s t)) 7 [] ∷ []

unfoldable pub plan_answer : (ResamplingFunction → Bool) → Scaler → ℕ → ImageSize → ImageSize → Answer
plan_answer knows o c s t = answer (plan_checks knows o c s t)

-- the elements of an image
abbrev pub area : ℕ → ImageSize → ℕ
area c s = s.width * s.height * c

-- the work buffer of a stage on both axes: the rows of a batch, or on route Whole the vertical image
abbrev pub both_work : Route → ℕ → Stage → ℕ
both_work Single c st = st.source.width * c * cond (nat_lt st.target.height 4) 1 4
both_work Whole c st = st.source.width * st.target.height * c

abbrev pub work_by : StageKind → Route → ℕ → Stage → ℕ
work_by Copied r c st = 0
work_by Sampled r c st = 0
work_by Vertical r c st = 0
work_by Horizontal r c st = 0
work_by Both r c st = both_work r c st

-- the work size of a plan: the largest of any stage
abbrev pub work_of : Route → ℕ → List Stage → ℕ
work_of r c [] = 0
work_of r c (st ∷ sts) = max (work_by st.kind r c st) (work_of r c sts)

-- the size of each half: the largest target but the last stage's, in elements
abbrev pub half_of : ℕ → List Stage → ℕ
half_of c [] = 0
half_of c (st ∷ []) = 0
half_of c (st ∷ nx ∷ sts) = max (area c st.target) (half_of c (nx ∷ sts))
