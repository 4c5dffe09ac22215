-- Calls on a sheet: what each answers, which pixels it is over, and what is due there.
use Rattle.std.specs.Prelude.{◌≡◌, ℕ, ◌+◌, ◌-◌, ◌<◌, Bool, true, false, cond, not, ◌&&◌, ◌||◌, List, [], ◌∷◌, length, ◌==◌, ◌≢◌, nat_le, nat_lt, slice_index_or}
use Rattle.image.specs.declared.image_size.ImageSize.{ImageSize}
use Rattle.image.specs.Refusals.{Answer, Check, check, answer, and_then}
use Rattle.image.specs.Refusals.Answer.{granted, refused}
use Rattle.image.specs.declared.numbers.Numbers.{Numbers}
use Rattle.image.specs.Stores.{place, pixel, image, image_pixel, source_answer, target_answer, part_answer, part_numbers}
use Rattle.sampler.specs.Functions.{is_nearest}
use Rattle.convolution.specs.Meaning.{Meaning}
use Rattle.planner.specs.declared.scaler.Scaler.{Scaler}
use Rattle.planner.specs.declared.stage.Stage.{Stage}
use Rattle.planner.specs.Stages.{stages_of, same_size}
use Rattle.planner.specs.Plans.{work_of, half_of}
use Rattle.values.specs.Values.{composed}

-- a store: its numbers, and the elements of its buffer
pub record Store (E : Type 0) : Type 0 where
  pub numbers : Numbers
  pub elements : List E

-- what a plan was made for
pub record Request : Type 0 where
  pub scaler : Scaler
  pub channels : ℕ
  pub source : ImageSize
  pub target : ImageSize

-- the stages defined for its sizes, function and flags, and the buffers that they need
abbrev pub steps : Request → List Stage
steps r = stages_of r.scaler r.source r.target

abbrev pub work_size : Request → ℕ
work_size r = work_of r.scaler.route r.channels (steps r)

abbrev pub half_size : Request → ℕ
half_size r = half_of r.channels (steps r)

-- the part of the sheet that a call is for: a resample call is for the whole sheet
pub data Window : Type 0 where
  whole : Window
  part : ℕ → ℕ → ℕ → ℕ → Window

-- One call: a plan of any family, a window, a source, and work buffer and halves with any contents.
pub record Call (E : Type 0) : Type 0 where
  pub meaning : Meaning E
  pub request : Request
  pub window : Window
  pub source : Store E
  pub work : List E
  pub first : List E
  pub second : List E

-- All that an answer depends on: plan, numbers and lengths, and no element.
pub record Asked : Type 0 where
  pub request : Request
  pub window : Window
  pub sheet : Numbers
  pub sheet_length : ℕ
  pub source : Numbers
  pub source_length : ℕ
  pub work_length : ℕ
  pub first_length : ℕ
  pub second_length : ℕ

-- a destination and a source that are those of the plan
abbrev pub match_checks : Request → Numbers → Numbers → List Check
match_checks r d s =
    check (not (d.channels == r.channels)) 13 (r.channels ∷ d.channels ∷ [])
    ∷ check (not (s.channels == r.channels)) 13 (r.channels ∷ s.channels ∷ [])
    ∷ check (not (s.width == r.source.width && s.height == r.source.height)) 9 (r.source.width ∷ r.source.height ∷ s.width ∷ s.height ∷ [])
    ∷ check (not (d.width == r.target.width && d.height == r.target.height)) 10 (r.target.width ∷ r.target.height ∷ d.width ∷ d.height ∷ [])
    ∷ []

-- buffers that are long enough, and a depth where the elements need one; a plan of one nearest stage needs none
abbrev pub buffer_checks : Bool → Request → ℕ → ℕ → ℕ → ℕ → List Check
buffer_checks deep r depth work first second =
    check (nat_lt work (work_size r)) 8 (work_size r ∷ work ∷ [])
    ∷ check (nat_lt first (half_size r)) 8 (half_size r ∷ first ∷ [])
    ∷ check (nat_lt second (half_size r)) 8 (half_size r ∷ second ∷ [])
    ∷ check ((deep && not (is_nearest r.scaler.function)) && (nat_lt depth 1 || nat_lt 16 depth)) 6 (depth ∷ [])
    ∷ []

unfoldable pub match_answer : Request → Numbers → Numbers → Answer
match_answer r d s = answer (match_checks r d s)

-- a call of equal sizes copies, and asks no more
unfoldable pub buffer_answer : Bool → Request → ℕ → ℕ → ℕ → ℕ → Answer
buffer_answer deep r depth work first second =
    cond (same_size r.source r.target) granted (answer (buffer_checks deep r depth work first second))

module _ (size : ℕ) (deep : Bool) where
  -- a resample of a source into a destination of d_length elements
  abbrev pub resample_answer : Asked → Numbers → ℕ → Answer
  resample_answer q d d_length =
      and_then (target_answer size d d_length)
      (and_then (source_answer size q.source q.source_length)
      (and_then (match_answer q.request d q.source)
      (buffer_answer deep q.request d.bit_depth q.work_length q.first_length q.second_length)))

  abbrev pub answer_by : Window → Asked → Answer
  answer_by whole q = resample_answer q q.sheet q.sheet_length
  answer_by (part x y w h) q =
      and_then (target_answer size q.sheet q.sheet_length)
      (and_then (part_answer x y w h q.sheet.width q.sheet.height)
      (resample_answer q (part_numbers q.sheet w h) (q.sheet_length - place q.sheet x y)))

  unfoldable pub answer_of : Asked → Answer
  answer_of q = answer_by q.window q

abbrev pub is_granted : Answer → Bool
is_granted granted = true
is_granted (refused n vs) = false

-- the pixels of a window
pub record Area : Type 0 where
  pub left : ℕ
  pub top : ℕ
  pub width : ℕ
  pub height : ℕ

abbrev pub area : Numbers → Window → Area
area n whole = record { left = 0; top = 0; width = n.width; height = n.height }
area n (part x y w h) = record { left = x; top = y; width = w; height = h }

abbrev pub covers : Area → ℕ → ℕ → Bool
covers a x y = (nat_le a.left x && nat_lt x (a.left + a.width)) && (nat_le a.top y && nat_lt y (a.top + a.height))

module _ {E : Type 0} where
  abbrev pub asked : Call E → Numbers → ℕ → Asked
  asked c n len = record {
    request = c.request;
    window = c.window;
    sheet = n;
    sheet_length = len;
    source = c.source.numbers;
    source_length = length c.source.elements;
    work_length = length c.work;
    first_length = length c.first;
    second_length = length c.second;
  }

  -- the plan's value: its stages composed, of the source's pixels, at the sheet's depth
  abbrev pub plan_value : Call E → ℕ → List (List E)
  plan_value c depth = composed c.meaning c.request.channels depth (steps c.request) (image c.source.numbers c.source.elements)

module _ {E : Type 0} (size : ℕ) (deep : Bool) where
  abbrev pub answer_to : Call E → Store E → Answer
  answer_to c s = answer_of size deep (asked c s.numbers (length s.elements))

  -- a granted call is over its window's pixels
  unfoldable pub over : Call E → Store E → ℕ → ℕ → Bool
  over c s x y = is_granted (answer_to c s) && covers (area s.numbers c.window) x y

  -- the pixel of the plan's value for the place x, y of the sheet
  unfoldable pub due : Call E → Store E → ℕ → ℕ → List E
  due c s x y =
      image_pixel s.numbers.channels (plan_value c s.numbers.bit_depth)
      (x - (area s.numbers c.window).left) (y - (area s.numbers c.window).top)

  -- What one call does: the sheet s before, its answer, the sheet t after.
  pub record Step (c : Call E) (s : Store E) (a : Answer) (t : Store E) : Type 0 where
    pub numbers : t.numbers ≡ s.numbers
    pub length_kept : length t.elements ≡ length s.elements
    pub answered : a ≡ answer_to c s
    -- every pixel that the call is over is the one due there
    pub inside : (x y : ℕ) → over c s x y ≡ true → pixel t.numbers t.elements x y ≡ due c s x y
    -- every element that is in no such pixel is as it was
    pub outside : (k : ℕ) (d : E) → ((x y i : ℕ) → over c s x y ≡ true → i < s.numbers.channels → k ≢ place s.numbers x y + i) → slice_index_or t.elements k d ≡ slice_index_or s.elements k d
