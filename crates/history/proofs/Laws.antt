-- No pixel is wrong, runs agree, and calls apart may change places.
use Rattle.std.proofs.Common.{◌≡◌, ℕ, zero, suc, ◌*◌, ◌/◌, ◌%◌, Bool, List, [], ◌∷◌, ◌++◌, sym, refl, ap, ◌∙◌, subst, ap₂, inl, inr}
use Rattle.std.proofs.lemmas.Bool.{cases_Bool}
use Rattle.image.specs.Refusals.{Answer}
use Rattle.history.specs.Calls.{Call, Store, answer_to, over}
use Rattle.history.specs.Past.{Entry, calls, answers, All, Latest, Wrong}
use Rattle.history.specs.Past.Latest.{here, before}
use Rattle.history.specs.Past.Wrong.{none, right}
use Rattle.history.specs.Promise.{Apart, RunsAgree, NoWrongPixel, NeighboursExchange}
use Rattle.history.proofs.Kept.{held, latest_view}
use Rattle.history.proofs.Sheets.{Agree, same_sheets}

all_right : (R : ℕ → Type 0) → ((k : ℕ) → R k) → (m : ℕ) → Wrong R m 0
all_right R h zero = none
all_right R h (suc m) = right (all_right R h m) (h m)

module _ {E : Type 0} (size : ℕ) (deep : Bool) where
  pub no_wrong_pixel : NoWrongPixel E size deep
  no_wrong_pixel made s es p =
      let h = held size deep made s es p in
      let n = made.numbers in
      record {
        no_wrong_pixel = all_right _ (λ k. h.right (k % n.width) (k / n.width)) (n.width * n.height);
        as_found = h.found;
        numbers = h.numbers;
        length_kept = h.length_kept;
        answered = h.answered;
      }

  -- equal calls have equal answers
  same_answers : (made : Store E) (es fs : List (Entry E)) → calls es ≡ calls fs → All (λ e. e.answer ≡ answer_to size deep e.call made) es → All (λ e. e.answer ≡ answer_to size deep e.call made) fs → answers es ≡ answers fs
  same_answers made es fs p a b = of es a ∙ (ap (defined made) p ∙ sym (of fs b))
    where
      defined : Store E → List (Call E) → List Answer
      defined m [] = []
      defined m (c ∷ cs) = answer_to size deep c m ∷ defined m cs

      of : (gs : List (Entry E)) → All (λ e. e.answer ≡ answer_to size deep e.call made) gs → answers gs ≡ defined made (calls gs)
      of [] u = refl
      of (g ∷ gs) u = ap₂ (λ x xs. x ∷ xs) u.0 (of gs u.1)

  pub runs_agree : RunsAgree E size deep
  runs_agree made s t es fs ps pt p =
      let h = held size deep made s es ps in
      let g = held size deep made t fs pt in
      let ag : Agree size deep made (calls es) (calls fs) = record {
        there = λ x y c l. (c, subst (Latest size deep made x y c) p l, refl);
        back = λ x y c l. (c, subst (Latest size deep made x y c) (sym p) l);
      } in
      (same_sheets size deep made s t es fs h g ag, same_answers made es fs p h.answered g.answered)

  calls_append : (es fs : List (Entry E)) → calls (es ++ fs) ≡ calls es ++ calls fs
  calls_append [] fs = refl
  calls_append (e ∷ es) fs = ap (λ l. e.call ∷ l) (calls_append es fs)

  all_front : (P : Entry E → Type 0) (es fs : List (Entry E)) → All P (es ++ fs) → All P es
  all_front P [] fs u = tt
  all_front P (e ∷ es) fs u = (u.0, all_front P es fs u.1)

  all_back : (P : Entry E → Type 0) (es fs : List (Entry E)) → All P (es ++ fs) → All P fs
  all_back P [] fs u = u
  all_back P (e ∷ es) fs u = all_back P es fs u.1

  -- two calls apart, in either order, show the same latest call at each pixel
  exchanged : (made : Store E) (x y : ℕ) (c p q : Call E) (rest : List (Call E)) → Apart E size deep made p q → (front : List (Call E)) → Latest size deep made x y c (front ++ (q ∷ (p ∷ rest))) → Latest size deep made x y c (front ++ (p ∷ (q ∷ rest)))
  exchanged made x y c p q rest a [] l =
      elim (latest_view size deep made x y c q (p ∷ rest) l) [
        | inl u ↦
            elim (cases_Bool (over size deep p made x y)) [
              | inl o ↦ absurd (a x y o (ap (λ d. over size deep d made x y) (sym u.0) ∙ u.1))
              | inr o ↦ before o (subst (λ (d : Call E). Latest size deep made x y c (d ∷ rest)) u.0 (here u.1))
            ]
        | inr u ↦
            elim (latest_view size deep made x y c p rest u.1) [
              | inl v ↦ subst (λ (d : Call E). Latest size deep made x y c (d ∷ (q ∷ rest))) v.0 (here v.1)
              | inr v ↦ before v.0 (before u.0 v.1)
            ]
      ]
  exchanged made x y c p q rest a (f ∷ front) l =
      elim (latest_view size deep made x y c f (front ++ (q ∷ (p ∷ rest))) l) [
        | inl u ↦ subst (λ (d : Call E). Latest size deep made x y c (d ∷ (front ++ (p ∷ (q ∷ rest))))) u.0 (here u.1)
        | inr u ↦ before u.0 (exchanged made x y c p q rest a front u.1)
      ]

  pub exchange : NeighboursExchange E size deep
  exchange made s t later later' earlier earlier' e f e' f' ps pt pl pe ee ef apart =
      let h = held size deep made s _ ps in
      let g = held size deep made t _ pt in
      let P = λ (u : Entry E). u.answer ≡ answer_to size deep u.call made in
      let hb = all_back P later (f ∷ (e ∷ earlier)) h.answered in
      let gb = all_back P later' (e' ∷ (f' ∷ earlier')) g.answered in
      let cs = calls later ++ (f.call ∷ (e.call ∷ calls earlier)) in
      let ds = calls later ++ (e.call ∷ (f.call ∷ calls earlier)) in
      let hs : calls (later ++ (f ∷ (e ∷ earlier))) ≡ cs = calls_append later _ in
      let gs : calls (later' ++ (e' ∷ (f' ∷ earlier'))) ≡ ds = calls_append later' _ ∙ sym (λ i. pl i ++ (ee i ∷ (ef i ∷ pe i))) in
      let ag : Agree size deep made cs ds = record {
        there = λ x y c l. (c, exchanged made x y c e.call f.call (calls earlier) apart (calls later) l, refl);
        back = λ x y c l. (c, exchanged made x y c f.call e.call (calls earlier) (λ u v o o'. apart u v o' o) (calls later) l);
      } in
      let ag' : Agree size deep made (calls (later ++ (f ∷ (e ∷ earlier)))) (calls (later' ++ (e' ∷ (f' ∷ earlier')))) = subst (λ (l : List (Call E)). Agree size deep made l (calls (later' ++ (e' ∷ (f' ∷ earlier'))))) (sym hs) (subst (λ (l : List (Call E)). Agree size deep made cs l) (sym gs) ag) in (
        same_sheets size deep made s t _ _ h g ag',
        same_answers made later later' pl (all_front P later _ h.answered) (all_front P later' _ g.answered),
        same_answers made earlier earlier' pe hb.1.1 gb.1.1,
        hb.1.0 ∙ (ap (λ c. answer_to size deep c made) ee ∙ sym gb.0),
        hb.0 ∙ (ap (λ c. answer_to size deep c made) ef ∙ sym gb.1.0),
      )
