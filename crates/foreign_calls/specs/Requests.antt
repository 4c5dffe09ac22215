-- What a caller asks for in numbers, and what planning answers to it.
use Rattle.std.specs.Prelude.{ℕ, Bool, cond, List, [], ◌∷◌, length, Some, None, Option, nat_lt, slice_index}
use Rattle.image.specs.Refusals.{Answer, check, answer, and_then}
use Rattle.image.specs.Refusals.Answer.{granted, refused}
use Rattle.image.specs.declared.image_size.ImageSize.{ImageSize}
use Rattle.image.specs.declared.numbers.Numbers.{Numbers}
use Rattle.image.specs.declared.numbers.Part.{Part}
use Rattle.sampler.specs.Functions.{function_at, place}
use Rattle.sampler.specs.declared.sampler.ResamplingFunction.{ResamplingFunction}
use Rattle.convolution.specs.Meaning.{Meaning}
use Rattle.planner.specs.declared.scaler.Scaler.{Scaler}
use Rattle.planner.specs.declared.scaler.Route.TheVariants.{Single, Whole}
use Rattle.planner.specs.declared.stage.Stage.{Stage}
use Rattle.planner.specs.Stages.{letter_of}
use Rattle.planner.specs.Plans.{plan_answer}
use Rattle.history.specs.Calls.{Call, Store, Window, Request as OfPlan, steps, work_size, half_size}
use Rattle.history.specs.Calls.Window.{whole, part}
use Rattle.foreign_calls.specs.declared.answers.Values.{Values}
use Rattle.foreign_calls.specs.declared.calls.Plan.{Plan}
use Rattle.foreign_calls.specs.declared.calls.StageRow.{StageRow}
use Rattle.foreign_calls.specs.declared.requests.Request.{Request}

-- the scaler: the function at its place, and flags that are on unless they are 0
abbrev pub scaler_of : Request → Scaler
scaler_of q = record {
  function = function_at q.function;
  multi_step_upscaling = nat_lt 0 q.multi_step;
  supersampling = nat_lt 0 q.supersampling;
  route = cond (nat_lt 0 q.whole) Whole Single;
}

abbrev pub source_of : Request → ImageSize
source_of q = record { width = q.source_width; height = q.source_height }

abbrev pub target_of : Request → ImageSize
target_of q = record { width = q.target_width; height = q.target_height }

-- a place beyond the last function is an unknown function; then the answer is planning's
abbrev pub request_answer : (ResamplingFunction → Bool) → Request → Answer
request_answer knows q =
    and_then (answer (check (nat_lt 52 q.function) 7 [] ∷ []))
    (plan_answer knows (scaler_of q) q.channels (source_of q) (target_of q))

-- a stage in numbers
abbrev pub stage_row : Stage → StageRow
stage_row s = record {
  letter = letter_of s.kind;
  function = place s.function;
  source_width = s.source.width;
  source_height = s.source.height;
  target_width = s.target.width;
  target_height = s.target.height;
}

-- an answer in numbers: 0 where it is granted, else the refusal's number, and the values that it carries
abbrev pub number_told : Answer → ℕ
number_told granted = 0
number_told (refused n vs) = n

abbrev pub six : List ℕ → Values
six vs = record { first = slice_index vs 0; second = slice_index vs 1; third = slice_index vs 2; fourth = slice_index vs 3; fifth = slice_index vs 4; sixth = slice_index vs 5 }

abbrev pub values_told : Answer → Values
values_told granted = six []
values_told (refused n vs) = six vs

-- the window that is asked for, where none means the whole sheet
abbrev pub window_of : Option Part → Window
window_of None = whole
window_of (Some p) = part p.x p.y p.width p.height

abbrev pub request_for : Request → OfPlan
request_for q = record { scaler = scaler_of q; channels = q.channels; source = source_of q; target = target_of q }

-- what the plan has: its count of stages, and the sizes of its buffers
abbrev pub plan_had : OfPlan → Plan
plan_had r = record { stages = length (steps r); work = work_size r; half = half_size r }

module _ {E : Type 0} where
  -- the call on a sheet by a plan
  abbrev pub call_by : Meaning E → OfPlan → Window → Numbers → List E → List E → List E → List E → Call E
  call_by m r w s from work first second = record {
    meaning = m;
    request = r;
    window = w;
    source = record { numbers = s; elements = from };
    work = work;
    first = first;
    second = second;
  }

  -- the sheet of these numbers over a buffer
  abbrev pub sheet_on : Numbers → List E → Store E
  sheet_on n xs = record { numbers = n; elements = xs }
