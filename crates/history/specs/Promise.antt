-- The promise on sheets: no wrong pixel, calls apart may change places, and nothing else that buffers hold matters.
use Rattle.std.specs.Prelude.{◌≡◌, ℕ, ◌<◌, Bool, true, List, [], ◌∷◌, ◌++◌, length, ◌≢◌}
use Rattle.image.specs.Stores.{pixel}
use Rattle.convolution.specs.Meaning.{Shaped}
use Rattle.history.specs.Calls.{Store, Call, over}
use Rattle.history.specs.Past.{Entry, All, calls, answers, Past, Upheld}

module _ {E : Type 0} where
  -- calls that differ only in what work buffers, halves, gaps and pixels outside the source hold
  pub record Alike (c d : Call E) : Type 0 where
    pub meaning : c.meaning ≡ d.meaning
    pub request : c.request ≡ d.request
    pub window : c.window ≡ d.window
    pub source_numbers : c.source.numbers ≡ d.source.numbers
    pub source_length : length c.source.elements ≡ length d.source.elements
    pub source_pixels : (x y : ℕ) → x < c.source.numbers.width → y < c.source.numbers.height → pixel c.source.numbers c.source.elements x y ≡ pixel d.source.numbers d.source.elements x y
    pub work : length c.work ≡ length d.work
    pub first : length c.first ≡ length d.first
    pub second : length c.second ≡ length d.second

  abbrev pub AllAlike : List (Call E) → List (Call E) → Type 0
  AllAlike [] [] = Unit {0}
  AllAlike [] (d ∷ ds) = ⊥
  AllAlike (c ∷ cs) [] = ⊥
  AllAlike (c ∷ cs) (d ∷ ds) = Alike c d × AllAlike cs ds

module _ (E : Type 0) (size : ℕ) (deep : Bool) where
  -- Every list of calls by families of right lengths has a run on every made sheet.
  abbrev pub RunsExist : Type 0
  RunsExist =
      (made : Store E) (cs : List (Call E)) → All (λ c. Shaped c.meaning) cs
      → (s : Store E) × ((es : List (Entry E)) × (calls es ≡ cs) × Past size deep made es s)

  -- And only one.
  abbrev pub RunsAgree : Type 0
  RunsAgree =
      (made s t : Store E) (es fs : List (Entry E)) → Past size deep made es s → Past size deep made fs t → calls es ≡ calls fs
      → (s ≡ t) × (answers es ≡ answers fs)

  -- After any list of calls no pixel is wrong.
  abbrev pub NoWrongPixel : Type 0
  NoWrongPixel = (made s : Store E) (es : List (Entry E)) → Past size deep made es s → Upheld size deep made es s

  -- no pixel is in the windows of both, as far as they are granted
  abbrev pub Apart : Store E → Call E → Call E → Type 0
  Apart made c d = (x y : ℕ) → over size deep c made x y ≡ true → over size deep d made x y ≢ true

  -- Two adjoining calls whose windows share no pixel may change places.
  abbrev pub NeighboursExchange : Type 0
  NeighboursExchange =
      (made s t : Store E) (later later' earlier earlier' : List (Entry E)) (e f e' f' : Entry E)
      → Past size deep made (later ++ (f ∷ (e ∷ earlier))) s
      → Past size deep made (later' ++ (e' ∷ (f' ∷ earlier'))) t
      → calls later ≡ calls later' → calls earlier ≡ calls earlier' → e.call ≡ e'.call → f.call ≡ f'.call
      → Apart made e.call f.call
      → (s ≡ t) × (answers later ≡ answers later') × (answers earlier ≡ answers earlier') × (e.answer ≡ e'.answer) × (f.answer ≡ f'.answer)

  -- Lists that are alike give equal sheets and equal answers.
  abbrev pub ContentsUnseen : Type 0
  ContentsUnseen =
      (made made' s t : Store E) (es fs : List (Entry E))
      → made.numbers ≡ made'.numbers → made.elements ≡ made'.elements
      → Past size deep made es s → Past size deep made' fs t → AllAlike (calls es) (calls fs)
      → (s ≡ t) × (answers es ≡ answers fs)

-- The whole promise, at one element type, whatever its bytes and its need of a depth.
pub record Promise (E : Type 0) : Type 0 where
  pub exists : (size : ℕ) (deep : Bool) → RunsExist E size deep
  pub agree : (size : ℕ) (deep : Bool) → RunsAgree E size deep
  pub no_wrong_pixel : (size : ℕ) (deep : Bool) → NoWrongPixel E size deep
  pub exchange : (size : ℕ) (deep : Bool) → NeighboursExchange E size deep
  pub unseen : (size : ℕ) (deep : Bool) → ContentsUnseen E size deep
