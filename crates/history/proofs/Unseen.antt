-- What work buffers, halves, gaps and pixels outside the source hold is not seen.
use Rattle.std.proofs.Common.{◌≡◌, ℕ, ◌-◌, Bool, ◌&&◌, List, [], ◌∷◌, length, sym, refl, ap, ◌∙◌, subst, ap₂, inl, inr}
use Rattle.image.specs.declared.numbers.Numbers.{Numbers}
use Rattle.image.specs.Stores.{image_pixel}
use Rattle.values.specs.Values.{composed}
use Rattle.history.specs.Calls.{Call, Store, steps, answer_of, answer_to, asked, area, covers, is_granted, over, due}
use Rattle.history.specs.Past.{Entry, calls, answers, All, Past, Latest}
use Rattle.history.specs.Past.Latest.{here, before}
use Rattle.history.specs.Promise.{Alike, AllAlike, ContentsUnseen}
use Rattle.history.proofs.Images.{images}
use Rattle.history.proofs.Kept.{held, latest_view}
use Rattle.history.proofs.Sheets.{Agree, same_sheets}

module _ {E : Type 0} (size : ℕ) (deep : Bool) where
  asked_alike : (c d : Call E) (n : Numbers) (len : ℕ) → Alike c d → asked c n len ≡ asked d n len
  asked_alike c d n len a i = record {
    request = a.request i;
    window = a.window i;
    sheet = n;
    sheet_length = len;
    source = a.source_numbers i;
    source_length = a.source_length i;
    work_length = a.work i;
    first_length = a.first i;
    second_length = a.second i;
  }

  answer_alike : (c d : Call E) (s : Store E) → Alike c d → answer_to size deep c s ≡ answer_to size deep d s
  answer_alike c d s a = ap (answer_of size deep) (asked_alike c d s.numbers (length s.elements) a)

  over_alike : (c d : Call E) (s : Store E) (x y : ℕ) → Alike c d → over size deep c s x y ≡ over size deep d s x y
  unfolding over
  over_alike c d s x y a = ap₂ (λ r w. is_granted r && covers (area s.numbers w) x y) (answer_alike c d s a) a.window

  due_alike : (c d : Call E) (s : Store E) (x y : ℕ) → Alike c d → due size deep c s x y ≡ due size deep d s x y
  unfolding due
  due_alike c d s x y a =
      let im = images c.source d.source a.source_numbers a.source_length a.source_pixels in
      λ i. image_pixel s.numbers.channels (composed (a.meaning i) (a.request i).channels s.numbers.bit_depth (steps (a.request i)) (im i))
      (x - (area s.numbers (a.window i)).left) (y - (area s.numbers (a.window i)).top)

  latest_alike : (made : Store E) (x y : ℕ) (c : Call E) (cs ds : List (Call E)) → AllAlike cs ds → Latest size deep made x y c cs → (d : Call E) × Latest size deep made x y d ds × (due size deep c made x y ≡ due size deep d made x y)
  latest_alike made x y c [] [] a l = elim l [ ]
  latest_alike made x y c [] (d ∷ ds) a l = elim l [ ]
  latest_alike made x y c (b ∷ cs) [] a l = absurd a
  latest_alike made x y c (b ∷ cs) (d ∷ ds) a l =
      elim (latest_view size deep made x y c b cs l) [
        | inl u ↦ (
          d,
          here (sym (over_alike b d made x y a.0) ∙ (ap (λ z. over size deep z made x y) (sym u.0) ∙ u.1)),
          ap (λ z. due size deep z made x y) u.0 ∙ due_alike b d made x y a.0,
        )
        | inr u ↦
            let r = latest_alike made x y c cs ds a.1 u.1 in
            (r.0, before (sym (over_alike b d made x y a.0) ∙ u.0) r.1, r.2)
      ]

  latest_alike_back : (made : Store E) (x y : ℕ) (d : Call E) (cs ds : List (Call E)) → AllAlike cs ds → Latest size deep made x y d ds → (c : Call E) × Latest size deep made x y c cs
  latest_alike_back made x y d [] [] a l = elim l [ ]
  latest_alike_back made x y d [] (b ∷ ds) a l = absurd a
  latest_alike_back made x y d (c ∷ cs) [] a l = elim l [ ]
  latest_alike_back made x y d (c ∷ cs) (b ∷ ds) a l =
      elim (latest_view size deep made x y d b ds l) [
        | inl u ↦ (c, here (over_alike c b made x y a.0 ∙ (ap (λ z. over size deep z made x y) (sym u.0) ∙ u.1)))
        | inr u ↦ let r = latest_alike_back made x y d cs ds a.1 u.1 in (r.0, before (over_alike c b made x y a.0 ∙ u.0) r.1)
      ]

  answers_alike : (made : Store E) (es fs : List (Entry E)) → AllAlike (calls es) (calls fs) → All (λ e. e.answer ≡ answer_to size deep e.call made) es → All (λ e. e.answer ≡ answer_to size deep e.call made) fs → answers es ≡ answers fs
  answers_alike made [] [] a u v = refl
  answers_alike made [] (f ∷ fs) a u v = absurd a
  answers_alike made (e ∷ es) [] a u v = absurd a
  answers_alike made (e ∷ es) (f ∷ fs) a u v =
      ap₂ (λ x xs. x ∷ xs) (u.0 ∙ (answer_alike e.call f.call made a.0 ∙ sym v.0)) (answers_alike made es fs a.1 u.1 v.1)

  pub unseen : ContentsUnseen E size deep
  unseen made made' s t es fs p q ps pt a =
      let m : made' ≡ made = λ i. record { numbers = sym p i; elements = sym q i } in
      let h = held size deep made s es ps in
      let g = held size deep made t fs (subst (λ (z : Store E). Past size deep z fs t) m pt) in
      let ag : Agree size deep made (calls es) (calls fs) = record {
        there = λ x y c l. latest_alike made x y c (calls es) (calls fs) a l;
        back = λ x y d l. latest_alike_back made x y d (calls es) (calls fs) a l;
      } in
      (same_sheets size deep made s t es fs h g ag, answers_alike made es fs a h.answered g.answered)
