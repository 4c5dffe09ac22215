-- Two lists of calls that show the same latest value at each pixel end in equal sheets.
use Rattle.std.proofs.Common.{◌≡◌, ℕ, ◌+◌, ◌/◌, ◌%◌, ◌<◌, Bool, ◌⊎◌, List, [], ◌∷◌, get_or, sym, ap, ◌∙◌, subst, inl, inr, mod-lt, div-add-mod', arith}
use Rattle.std.proofs.lemmas.List.{same_lists}
use Rattle.std.proofs.lemmas.Bool.{cases_Bool, both_ways}
use Rattle.image.specs.declared.numbers.Numbers.{Numbers}
use Rattle.image.specs.Stores.{pitch, place, pixel}
use Rattle.history.specs.Calls.{Call, Store, over, due}
use Rattle.history.specs.Past.{Entry, calls, Latest, Untouched}
use Rattle.history.specs.Past.Latest.{here, before}
use Rattle.history.proofs.Allowed.{over_fit}
use Rattle.history.proofs.Places.{row_of, column_of, element}
use Rattle.history.proofs.Kept.{Held, latest_over, latest_view}

module _ {E : Type 0} (size : ℕ) (deep : Bool) where
  -- some call of the list is over the element at k
  record Touch (made : Store E) (cs : List (Call E)) (k : ℕ) : Type 0 where
    pub call : Call E
    pub x : ℕ
    pub y : ℕ
    pub i : ℕ
    pub latest : Latest size deep made x y call cs
    pub channel : i < made.numbers.channels
    pub at : k ≡ place made.numbers x y + i

  latest? : (made : Store E) (x y : ℕ) (cs : List (Call E)) → ((c : Call E) × Latest size deep made x y c cs) ⊎ ((c : Call E) → Latest size deep made x y c cs → ⊥)
  latest? made x y [] = inr (λ c l. elim l [ ])
  latest? made x y (d ∷ ds) =
      elim (cases_Bool (over size deep d made x y)) [
        | inl o ↦ inl (d, here o)
        | inr o ↦
            elim (latest? made x y ds) [
              | inl p ↦ inl (p.0, before o p.1)
              | inr f ↦
                  inr (λ c l.
                  elim (latest_view size deep made x y c d ds l) [
                    | inl q ↦ both_ways (over size deep c made x y) (ap (λ u. over size deep u made x y) q.0 ∙ o) q.1
                    | inr q ↦ f c q.1
                  ])
            ]
      ]

  -- or none is
  touched? : (made : Store E) (cs : List (Call E)) (k : ℕ) → Touch made cs k ⊎ Untouched size deep made cs k
  touched? made cs k =
      let n = made.numbers in
      let x = k % pitch n / n.channels in
      let y = k / pitch n in
      elim (latest? made x y cs) [
        | inl p ↦
            inl (let f = over_fit size deep p.0 made x y (latest_over size deep made _ _ p.0 cs p.1) in
            record {
              call = p.0;
              x = x;
              y = y;
              i = k % pitch n % n.channels;
              latest = p.1;
              channel = mod-lt (k % pitch n) f.some;
              at = omega (arith, div-add-mod' (k % pitch n) n.channels, div-add-mod' k (pitch n));
            })
        | inr u ↦
            inr (λ c x' y' i l b e.
            let f = over_fit size deep c made x' y' (latest_over size deep made x' y' c cs l) in
            let p : x ≡ x' = ap (λ m. m % pitch n / n.channels) e ∙ column_of n x' y' i f b in
            let q : y ≡ y' = ap (λ m. m / pitch n) e ∙ row_of n x' y' i f b in
            u c (subst (λ (v : ℕ). Latest size deep made x v c cs) (sym q) (subst (λ (v : ℕ). Latest size deep made v y' c cs) (sym p) l)))
      ]

  -- the lists show the same latest value at each pixel
  pub record Agree (made : Store E) (cs ds : List (Call E)) : Type 0 where
    pub there : (x y : ℕ) (c : Call E) → Latest size deep made x y c cs → (d : Call E) × Latest size deep made x y d ds × (due size deep c made x y ≡ due size deep d made x y)
    pub back : (x y : ℕ) (d : Call E) → Latest size deep made x y d ds → (c : Call E) × Latest size deep made x y c cs

  -- so the sheets are equal
  same_elements : (made s t : Store E) (es fs : List (Entry E)) → Held size deep made es s → Held size deep made fs t → Agree made (calls es) (calls fs) → s.elements ≡ t.elements
  same_elements made s t es fs h g a =
      same_lists s.elements t.elements (h.length_kept ∙ sym g.length_kept)
      (λ k d b.
      elim (touched? made (calls es) k) [
        | inl u ↦
            let r = a.there u.x u.y u.call u.latest in
            let p : pixel s.numbers s.elements u.x u.y ≡ pixel t.numbers t.elements u.x u.y = h.right u.x u.y u.call u.latest ∙ (r.2 ∙ sym (g.right u.x u.y r.0 r.1)) in
            at_place s h k d u ∙ (ap (λ l. get_or l u.i d) p ∙ sym (at_place t g k d u))
        | inr u ↦
            h.found k d u ∙ sym (g.found k d (λ c x y i l. u (a.back x y c l).0 x y i (a.back x y c l).1))
      ])
    where
      at_place : (r : Store E) {gs : List (Entry E)} → Held size deep made gs r → (k : ℕ) (d : E) (u : Touch made (calls es) k) → get_or r.elements k d ≡ get_or (pixel r.numbers r.elements u.x u.y) u.i d
      at_place r q k d u =
          ap (λ m. get_or r.elements m d) (u.at ∙ ap (λ n. place n u.x u.y + u.i) (sym q.numbers))
          ∙ sym (element r.numbers r.elements u.x u.y u.i d (subst (λ (n : Numbers). u.i < n.channels) (sym q.numbers) u.channel))

  pub same_sheets : (made s t : Store E) (es fs : List (Entry E)) → Held size deep made es s → Held size deep made fs t → Agree made (calls es) (calls fs) → s ≡ t
  same_sheets made s t es fs h g a =
      let p = h.numbers ∙ sym g.numbers in
      let q = same_elements made s t es fs h g a in
      λ i. record { numbers = p i; elements = q i }
