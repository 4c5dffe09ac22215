-- What a past shows of each pixel and each element.
use Rattle.std.proofs.Common.{◌≡◌, ℕ, ◌+◌, ◌-◌, ◌<◌, Bool, true, false, ◌&&◌, ◌⊎◌, List, ◌∷◌, length, get_or, sym, refl, ap, ◌∙◌, subst, ap₂, inl, inr}
use Rattle.std.proofs.lemmas.Bool.{cases_Bool, both_ways}
use Rattle.image.specs.Refusals.{Answer}
use Rattle.image.specs.declared.numbers.Numbers.{Numbers}
use Rattle.image.specs.Stores.{place, pixel, image_pixel}
use Rattle.history.specs.Calls.{Call, Store, answer_of, answer_to, asked, area, covers, is_granted, plan_value, over, due, Step}
use Rattle.history.specs.Past.{Entry, calls, All, Past, Latest, Right, Untouched}
use Rattle.history.specs.Past.Past.{fresh, next}
use Rattle.history.specs.Past.Latest.{here, before}
use Rattle.history.proofs.Allowed.{Fit, over_fit}
use Rattle.history.proofs.Places.{same_column, same_row, part_same}

module _ {E : Type 0} (size : ℕ) (deep : Bool) where
  -- neither depends on what the sheet holds
  over_same : (c : Call E) (s t : Store E) (x y : ℕ) → s.numbers ≡ t.numbers → length s.elements ≡ length t.elements → over size deep c s x y ≡ over size deep c t x y
  unfolding over
  over_same c s t x y p q = ap₂ (λ n l. is_granted (answer_of size deep (asked c n l)) && covers (area n c.window) x y) p q

  due_same : (c : Call E) (s t : Store E) (x y : ℕ) → s.numbers ≡ t.numbers → due size deep c s x y ≡ due size deep c t x y
  unfolding due
  due_same c s t x y p =
      ap (λ n. image_pixel n.channels (plan_value c n.bit_depth) (x - (area n c.window).left) (y - (area n c.window).top)) p

  -- what the past shows, before the pixels are counted
  pub record Held (made : Store E) (es : List (Entry E)) (s : Store E) : Type 0 where
    pub numbers : s.numbers ≡ made.numbers
    pub length_kept : length s.elements ≡ length made.elements
    pub right : (x y : ℕ) → Right size deep made (calls es) s x y
    pub found : (k : ℕ) (d : E) → Untouched size deep made (calls es) k → get_or s.elements k d ≡ get_or made.elements k d
    pub answered : All (λ e. e.answer ≡ answer_to size deep e.call made) es

  pub latest_over : (made : Store E) (x y : ℕ) (c : Call E) (cs : List (Call E)) → Latest size deep made x y c cs → over size deep c made x y ≡ true
  latest_over made x y c cs (here o) = o
  latest_over made x y c cs (before {d = d} {cs = ds} o l) = latest_over made x y c ds l

  pub latest_view : (made : Store E) (x y : ℕ) (c d : Call E) (ds : List (Call E)) → Latest size deep made x y c (d ∷ ds) → ((c ≡ d) × (over size deep c made x y ≡ true)) ⊎ ((over size deep d made x y ≡ false) × Latest size deep made x y c ds)
  latest_view made x y c d ds (here o) = inl (refl, o)
  latest_view made x y c d ds (before o l) = inr (o, l)

  -- a pixel that a call is not over stays
  kept_pixel : (c : Call E) (a : Answer) (s t : Store E) → Step size deep c s a t → (x y : ℕ) → Fit s.numbers x y → over size deep c s x y ≡ false → pixel t.numbers t.elements x y ≡ pixel s.numbers s.elements x y
  kept_pixel c a s t st x y f o =
      let n = s.numbers in
      ap (λ m. pixel m t.elements x y) st.numbers
      ∙ part_same t.elements s.elements (place n x y) n.channels st.length_kept
      (λ i d b. st.outside _ d
      (λ x' y' i' o' b' e.
      let f' = over_fit size deep c s x' y' o' in
      let p = same_column n x y i x' y' i' f f' b b' e in
      let q = same_row n x y i x' y' i' f f' b b' e in
      both_ways (over size deep c s x y) o (ap₂ (λ u v. over size deep c s u v) p q ∙ o')))

  module _ (made s t : Store E) (es : List (Entry E)) (e : Entry E) (h : Held made es s) (st : Step size deep e.call s e.answer t) where
    over_now : (x y : ℕ) → over size deep e.call s x y ≡ over size deep e.call made x y
    over_now x y = over_same e.call s made x y h.numbers h.length_kept

    right_next : (x y : ℕ) (c : Call E) → Latest size deep made x y c (e.call ∷ calls es) → pixel t.numbers t.elements x y ≡ due size deep c made x y
    right_next x y c l =
        elim (latest_view made x y c e.call (calls es) l) [
          | inl p ↦
              st.inside x y (over_now x y ∙ (ap (λ d. over size deep d made x y) (sym p.0) ∙ p.1))
              ∙ (due_same e.call s made x y h.numbers ∙ ap (λ d. due size deep d made x y) (sym p.0))
          | inr p ↦
              kept_pixel e.call e.answer s t st x y
              (subst (λ (n : Numbers). Fit n x y) (sym h.numbers) (over_fit size deep c made x y (latest_over made x y c (calls es) p.1)))
              (over_now x y ∙ p.0)
              ∙ h.right x y c p.1
        ]

    found_next : (k : ℕ) (d : E) → Untouched size deep made (e.call ∷ calls es) k → get_or t.elements k d ≡ get_or made.elements k d
    found_next k d u =
        st.outside k d
        (λ x y i o b p.
        u e.call x y i (here (sym (over_now x y) ∙ o)) (subst (λ (n : Numbers). i < n.channels) h.numbers b)
        (p ∙ ap (λ n. place n x y + i) h.numbers))
        ∙ h.found k d
        (λ c x y i l b p.
        elim (cases_Bool (over size deep e.call made x y)) [
          | inl o ↦ u e.call x y i (here o) b p
          | inr o ↦ u c x y i (before o l) b p
        ])

    pub held_next : Held made (e ∷ es) t
    held_next = record {
      numbers = st.numbers ∙ h.numbers;
      length_kept = st.length_kept ∙ h.length_kept;
      right = right_next;
      found = found_next;
      answered = (st.answered ∙ ap₂ (λ n l. answer_of size deep (asked e.call n l)) h.numbers h.length_kept, h.answered);
    }

  pub held : (made s : Store E) (es : List (Entry E)) → Past size deep made es s → Held made es s
  held made s es fresh =
      record {
        numbers = refl;
        length_kept = refl;
        right = λ x y c l. elim l [ ];
        found = λ k d u. refl;
        answered = tt;
      }
  held made s es (next {es = fs} {s = r} e p st) = held_next made r s fs e (held made r fs p) st
