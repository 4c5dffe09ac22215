-- The past of a sheet: its making, and after that calls, one after the other.
use Rattle.std.specs.Prelude.{◌≡◌, ℕ, suc, ◌+◌, ◌*◌, ◌/◌, ◌%◌, ◌<◌, Bool, true, false, List, [], ◌∷◌, length, ◌≢◌, slice_index_or}
use Rattle.image.specs.Refusals.{Answer}
use Rattle.image.specs.Stores.{place, pixel}
use Rattle.history.specs.Calls.{Store, Call, answer_to, over, due, Step}

-- a call with the answer that it got
pub record Entry (E : Type 0) : Type 0 where
  pub call : Call E
  pub answer : Answer

module _ {E : Type 0} where
  abbrev pub calls : List (Entry E) → List (Call E)
  calls [] = []
  calls (e ∷ es) = e.call ∷ calls es

  abbrev pub answers : List (Entry E) → List Answer
  answers [] = []
  answers (e ∷ es) = e.answer ∷ answers es

abbrev pub All : {X : Type 0} → (X → Type 0) → List X → Type 0
All P [] = Unit {0}
All P (x ∷ xs) = P x × All P xs

-- Of the first m places n are wrong: a place counts as wrong unless it is right.
pub data Wrong (Right : ℕ → Type 0) : ℕ → ℕ → Type 0 where
  none : Wrong Right 0 0
  right : {m n : ℕ} → Wrong Right m n → Right m → Wrong Right (suc m) n
  wrong : {m n : ℕ} → Wrong Right m n → (Right m → ⊥) → Wrong Right (suc m) (suc n)

module _ {E : Type 0} (size : ℕ) (deep : Bool) where
  -- The sheet has this past since its making: the entries, the latest first.
  pub data Past (made : Store E) : List (Entry E) → Store E → Type 0 where
    fresh : Past made [] made
    next : {es : List (Entry E)} {s t : Store E} (e : Entry E) → Past made es s → Step size deep e.call s e.answer t → Past made (e ∷ es) t

  -- c is the latest of the calls (the latest first) that is granted and over the pixel at x, y.
  pub data Latest (made : Store E) (x y : ℕ) (c : Call E) : List (Call E) → Type 0 where
    here : {cs : List (Call E)} → over size deep c made x y ≡ true → Latest made x y c (c ∷ cs)
    before : {d : Call E} {cs : List (Call E)} → over size deep d made x y ≡ false → Latest made x y c cs → Latest made x y c (d ∷ cs)

  -- A pixel that a granted call is over is right if it is the one due of the latest such call.
  abbrev pub Right : Store E → List (Call E) → Store E → ℕ → ℕ → Type 0
  Right made cs s x y = (c : Call E) → Latest made x y c cs → pixel s.numbers s.elements x y ≡ due size deep c made x y

  -- No granted call is over the element at k.
  abbrev pub Untouched : Store E → List (Call E) → ℕ → Type 0
  Untouched made cs k =
      (c : Call E) (x y i : ℕ) → Latest made x y c cs → i < made.numbers.channels → k ≢ place made.numbers x y + i

  -- What holds of a sheet with such a past.
  pub record Upheld (made : Store E) (es : List (Entry E)) (s : Store E) : Type 0 where
    -- no pixel is wrong: their count is 0
    pub no_wrong_pixel : Wrong (λ p. Right made (calls es) s (p % made.numbers.width) (p / made.numbers.width)) (made.numbers.width * made.numbers.height) 0
    -- every other element holds what the buffer held when the sheet was made
    pub as_found : (k : ℕ) (d : E) → Untouched made (calls es) k → slice_index_or s.elements k d ≡ slice_index_or made.elements k d
    pub numbers : s.numbers ≡ made.numbers
    pub length_kept : length s.elements ≡ length made.elements
    -- each answer, with every number that it carries, is the one defined
    pub answered : All (λ e. e.answer ≡ answer_to size deep e.call made) es
