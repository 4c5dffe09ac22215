-- Parts one after the other, and the steps of a loop that writes them.
use Rattle.std.specs.Prelude.{◌≡◌, ℕ, zero, suc, ◌+◌, ◌*◌, ◌<◌, ◌≤◌, List, [], ◌∷◌, ◌++◌, length, drop, slice_set}
use Rattle.std.proofs.Math.Path.{refl, sym}
use Rattle.std.proofs.Common.{ap, ◌∙◌, append-nil, append_assoc, zero-mul, arith, length-drop}
use Rattle.std.proofs.Math.Nat.{suc-mul}
use Rattle.std.proofs.Math.Numerals.{add-one}
use Rattle.std.proofs.Math.ListN.{length-append}
use Rattle.std.proofs.lemmas.List.{set_at, drop_more, drop_all}
use Rattle.image.specs.Rows.{joined}

module _ {X : Type 0} where
  pub joined_none : (v : ℕ → List X) → joined v 0 ≡ []
  unfolding joined
  joined_none v = refl

  pub joined_more : (v : ℕ → List X) (n : ℕ) → joined v (n + 1) ≡ joined v n ++ v n
  unfolding joined
  joined_more v n = rw add-one

  pub joined_same : (v w : ℕ → List X) (n : ℕ) → ((i : ℕ) → i < n → v i ≡ w i) → joined v n ≡ joined w n
  unfolding joined
  joined_same v w zero e = refl
  joined_same v w (suc n) e =
      let here = e n (omega arith) in
      let rest = joined_same v w n (λ i l. e i (omega arith)) in
      rw (here, rest)

  pub length-joined_below : (v : ℕ → List X) (s n : ℕ) → ((i : ℕ) → i < n → length (v i) ≡ s) → length (joined v n) ≡ n * s
  unfolding joined
  length-joined_below v s zero e = sym (zero-mul s)
  length-joined_below v s (suc n) e =
      let here = e n (omega arith) in
      let rest = length-joined_below v s n (λ i l. e i (omega arith)) in
      length-append (joined v n) (v n) ∙ omega (arith, suc-mul n s)

  -- xs with the parts v 0, v 1 .. over its front, k of them of one element each
  pub fronted_none : (v : ℕ → List X) (xs : List X) → xs ≡ joined v 0 ++ drop 0 xs
  fronted_none v xs = rw joined_none

  pub fronted_more : (v : ℕ → List X) (xs ys : List X) (k : ℕ) (y : X) → k < length xs → length ys ≡ length xs → ys ≡ joined v k ++ drop k xs → y ∷ [] ≡ v k → slice_set ys k y ≡ joined v (k + 1) ++ drop (k + 1) xs
  fronted_more v xs ys k y below long was is =
      let whole = ap length was ∙ length-append (joined v k) (drop k xs) in
      let front : length (joined v k) ≡ k = omega (arith, length-drop k xs) in
      ap (λ (zs : List X). slice_set zs k y) (was ∙ ap (λ (zs : List X). joined v k ++ zs) (drop_more xs k y below))
      ∙ (set_at (joined v k) _ (drop (k + 1) xs) y k front
      ∙ (sym (append_assoc (joined v k) (y ∷ []) (drop (k + 1) xs))
      ∙ ap (λ (zs : List X). zs ++ drop (k + 1) xs) (ap (λ (zs : List X). joined v k ++ zs) is ∙ sym (joined_more v k))))

  pub fronted_all : (v : ℕ → List X) (xs ys : List X) (k : ℕ) → length xs ≤ k → k ≤ length xs → ys ≡ joined v k ++ drop k xs → ys ≡ joined v (length xs)
  fronted_all v xs ys k most least was =
      let e : k ≡ length xs = omega arith in
      was ∙ (ap (λ (zs : List X). joined v k ++ zs) (drop_all k xs most) ∙ (append-nil (joined v k) ∙ ap (joined v) e))
