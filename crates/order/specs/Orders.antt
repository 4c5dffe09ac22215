-- An order: ten bytes of packed fields, the most significant first, and the pixels.
use Rattle.std.specs.Prelude.{◌≡◌, ℕ, ◌+◌, ◌*◌, ◌/◌, ◌%◌, Bool, not, ◌||◌, List, [], ◌∷◌, length, drop, ◌==◌, nat_lt, slice_index}
use Rattle.image.specs.Refusals.{Answer, Check, check, answer, and_then}
use Rattle.image.specs.Rows.{rows}
use Rattle.image.specs.declared.image_size.ImageSize.{ImageSize}
use Rattle.sampler.specs.Functions.{function_at}
use Rattle.sampler.specs.declared.sampler.ResamplingFunction.{ResamplingFunction}
use Rattle.convolution.specs.Meaning.{Meaning}
use Rattle.planner.specs.declared.stage.Stage.{Stage}
use Rattle.planner.specs.Stages.{stages_of}
use Rattle.planner.specs.Plans.{plan_answer, area}
use Rattle.values.specs.Values.{composed}
use Rattle.planner.specs.declared.scaler.Scaler.{Scaler}
use Rattle.planner.specs.declared.scaler.Route.TheVariants.{Single}
use Rattle.order.specs.declared.order.Order.{Order}

abbrev byte : List ℕ → ℕ → ℕ
byte bs i = slice_index bs i

abbrev word : List ℕ → ℕ → ℕ
word bs i = 256 * byte bs i + byte bs (i + 1)

-- form 4 bits, channels less one 2, multi-step 1, supersampling 1, function 8, four sizes of 16
abbrev pub order_form : List ℕ → ℕ
order_form bs = byte bs 0 / 16

abbrev pub order_channels : List ℕ → ℕ
order_channels bs = byte bs 0 / 4 % 4 + 1

abbrev pub order_scaler : List ℕ → Scaler
order_scaler bs = record {
  function = function_at (byte bs 1);
  multi_step_upscaling = (byte bs 0 / 2 % 2 == 1);
  supersampling = (byte bs 0 % 2 == 1);
  route = Single;
}

abbrev pub order_source : List ℕ → ImageSize
order_source bs = record { width = word bs 2; height = word bs 4 }

abbrev pub order_target : List ℕ → ImageSize
order_target bs = record { width = word bs 6; height = word bs 8 }

-- all that follows: the pixels, and further bytes that are ignored
abbrev pub order_rest : List ℕ → List ℕ
order_rest bs = drop 10 bs

-- the checks of reading an order
abbrev pub order_checks : List ℕ → List Check
order_checks bs =
    check (nat_lt (length bs) 10) 15 []
    ∷ check (not (order_form bs == 1) || nat_lt 52 (byte bs 1)) 16 []
    ∷ []

-- the most elements of an order's source, and of its target
abbrev pub element_limit : ℕ
element_limit = 4096

-- the checks that come after planning: the elements of source and target, and the bytes of the source's pixels
abbrev pub element_checks : ℕ → ImageSize → ImageSize → ℕ → List Check
element_checks c s t len =
    check (nat_lt element_limit (area c s) || nat_lt element_limit (area c t)) 17 []
    ∷ check (nat_lt len (area c s)) 15 []
    ∷ []

-- the answer to an order: reading, planning by what the family knows, and then the elements
abbrev pub order_answer : (ResamplingFunction → Bool) → List ℕ → Answer
order_answer knows bs =
    and_then (answer (order_checks bs))
    (and_then (plan_answer knows (order_scaler bs) (order_channels bs) (order_source bs) (order_target bs))
    (answer (element_checks (order_channels bs) (order_source bs) (order_target bs) (length (order_rest bs)))))

-- its stages
abbrev pub order_stages : List ℕ → List Stage
order_stages bs = stages_of (order_scaler bs) (order_source bs) (order_target bs)

-- the rows that an order's plan makes of its pixels, which lie without gaps
abbrev pub order_rows : Meaning ℕ → List ℕ → List (List ℕ)
order_rows m bs =
    composed m (order_channels bs) 0 (order_stages bs)
    (rows (order_rest bs) ((order_source bs).width * order_channels bs) ((order_source bs).width * order_channels bs) (order_source bs).height)

-- what is read of an order
pub record Read (bs : List ℕ) (o : Order) : Type 0 where
  pub channels : o.channels ≡ order_channels bs
  pub scaler : o.scaler ≡ order_scaler bs
  pub source : o.source ≡ order_source bs
  pub target : o.target ≡ order_target bs
  pub rest : o.pixels.now ≡ order_rest bs
