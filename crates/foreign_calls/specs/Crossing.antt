-- What one call from outside does: planning first, and where that is granted one call on the sheet.
use Rattle.std.specs.Prelude.{◌≡◌, ℕ, ◌-◌, Bool, false, cond, List, map, Option, Result, slice_index_or}
use Rattle.image.specs.declared.validation.PicScaleError.{PicScaleError}
use Rattle.image.specs.declared.numbers.Numbers.{Numbers}
use Rattle.image.specs.declared.numbers.Part.{Part}
use Rattle.image.specs.Refusals.{Answer, reply, and_then}
use Rattle.image.specs.Refusals.Answer.{granted}
use Rattle.sampler.specs.declared.sampler.ResamplingFunction.{ResamplingFunction}
use Rattle.convolution.specs.Meaning.{Meaning}
use Rattle.planner.specs.Plan.{but_for_memory}
use Rattle.history.specs.Calls.{Store, Call, Request as OfPlan, steps, answer_to, is_granted, Step}
use Rattle.image.specs.Stores.{part_numbers, place, crop_answer}
use Rattle.foreign_calls.specs.declared.answers.Values.{Values}
use Rattle.foreign_calls.specs.declared.calls.Plan.{Plan}
use Rattle.foreign_calls.specs.declared.calls.StageRow.{StageRow}
use Rattle.foreign_calls.specs.declared.requests.Request.{Request}
use Rattle.foreign_calls.specs.Requests.{number_told, values_told, plan_had, stage_row, request_answer, request_for, window_of, call_by, sheet_on}

-- an answer as its number and its values
pub record Told (a : Answer) (n : ℕ) (v : Values) : Type 0 where
  pub number : n ≡ number_told a
  pub values : v ≡ values_told a

-- The plan that was asked for, the call, the sheet s before; the answer a, the sheet t and the buffers after.
pub record Crossing {E : Type 0} (size : ℕ) (deep : Bool) (asked : Answer) (c : Call E) (s : Store E) (a : Answer) (t : Store E) (work first second : List E) : Type 0 where
  -- planning's answer is the defined one, but that it may lack memory where it would be granted
  pub planning : Answer
  pub planned : but_for_memory planning ≡ asked
  pub answered : a ≡ and_then planning (answer_to size deep c s)
  -- with a plan, the call is one step of the sheet's past
  pub step : planning ≡ granted → Step size deep c s a t
  -- without one the sheet is as it was
  pub unplanned : is_granted planning ≡ false → t ≡ s
  -- where the answer is a refusal, the buffers are as they were
  pub kept : is_granted a ≡ false → (work ≡ c.work) × (first ≡ c.first) × (second ≡ c.second)

-- the same with the answer in numbers, which are those of an error of the library, or of none
pub record Crossed {E : Type 0} (size : ℕ) (deep : Bool) (asked : Answer) (c : Call E) (s : Store E) (n : ℕ) (v : Values) (t : Store E) (work first second : List E) : Type 0 where
  pub said : Result (Unit {0}) PicScaleError
  pub told : Told (reply said) n v
  pub crossing : Crossing size deep asked c s (reply said) t work first second

-- A call by a family's meaning, as it is asked for: the request q, the window w, the source and the sheet by their
-- numbers and elements; then the number and the values told, and the elements after it.
abbrev pub Called : {E : Type 0} → ℕ → Bool → Meaning E → Request → Option Part → Numbers → List E → Numbers → List E → List E → List E → List E → ℕ → Values → List E → List E → List E → List E → Type 0
Called size deep m q w source from sheet into work first second n v into' work' first' second' =
    Crossed size deep (request_answer m.knows q) (call_by m (request_for q) (window_of w) source from work first second) (sheet_on sheet into) n v (sheet_on sheet into') work' first' second'

-- What a plan has, or nothing where it is refused: the plan p and the stage s before, p' and s' after.
pub record PlanMade (asked : Answer) (r : OfPlan) (number : ℕ) (p : Plan) (s : StageRow) (a : Answer) (p' : Plan) (s' : StageRow) : Type 0 where
  pub answered : but_for_memory a ≡ asked
  pub plan : p' ≡ cond (is_granted a) (plan_had r) p
  -- the stage of that number, counted from 0, where there is one
  pub stage : s' ≡ cond (is_granted a) (slice_index_or (map stage_row (steps r)) number s) s

pub record PlanTold (knows : ResamplingFunction → Bool) (q : Request) (number : ℕ) (p : Plan) (s : StageRow) (n : ℕ) (v : Values) (p' : Plan) (s' : StageRow) : Type 0 where
  pub said : Result (Unit {0}) PicScaleError
  pub told : Told (reply said) n v
  pub made : PlanMade (request_answer knows q) (request_for q) number p s (reply said) p' s'

-- A crop's numbers, and how many elements of the buffer are left from its first on; as they were where it is refused.
pub record CropMade (size : ℕ) (n : Numbers) (len : ℕ) (p : Part) (m : Numbers) (k : ℕ) (a : Answer) (m' : Numbers) (k' : ℕ) : Type 0 where
  pub answered : a ≡ crop_answer size n len p.x p.y p.width p.height
  pub numbers : m' ≡ cond (is_granted a) (part_numbers n p.width p.height) m
  pub left : k' ≡ cond (is_granted a) (len - place n p.x p.y) k

pub record CropTold (size : ℕ) (n : Numbers) (len : ℕ) (p : Part) (m : Numbers) (k : ℕ) (number : ℕ) (v : Values) (m' : Numbers) (k' : ℕ) : Type 0 where
  pub said : Answer
  pub told : Told said number v
  pub made : CropMade size n len p m k said m' k'
