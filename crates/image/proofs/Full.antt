-- Rows without gaps, over the whole of a buffer.
use Rattle.std.proofs.Common.{◌≡◌, ℕ, zero, suc, ◌+◌, ◌*◌, ◌<◌, ◌≤◌, List, ◌++◌, length, take, drop, sym, ap, ◌∙◌, append_assoc, append-nil, suc-mul, zero-mul, arith, length-append}
use Rattle.std.proofs.lemmas.List.{take_at, drop-drop, drop_at, drop_all}
use Rattle.image.specs.Rows.{painted, joined}

module _ {X : Type 0} where
  pub length-joined : (v : ℕ → List X) (s h : ℕ) → ((y : ℕ) → y < h → length (v y) ≡ s) → length (joined v h) ≡ h * s
  unfolding joined
  length-joined v s zero e = sym (zero-mul s)
  length-joined v s (suc h) e = length-append (joined v h) (v h) ∙ omega (arith, length-joined v s h (λ y l. e y (omega arith)), e h (omega arith), suc-mul h s)

  pub painted-joined : (xs : List X) (s : ℕ) (v : ℕ → List X) (h : ℕ) → ((y : ℕ) → y < h → length (v y) ≡ s) → h * s ≤ length xs → painted xs s v h ≡ joined v h ++ drop (h * s) xs
  unfolding painted joined
  painted-joined xs s v zero e fits = ap (λ k. drop k xs) (sym (zero-mul s))
  painted-joined xs s v (suc h) e fits =
      let long = length-joined v s h (λ y l. e y (omega arith)) in
      let less : h * s ≤ length xs = omega (arith, suc-mul h s) in
      let before = painted-joined xs s v h (λ y l. e y (omega arith)) less in
      let front : take (h * s) (painted xs s v h) ≡ joined v h = ap (take (h * s)) before ∙ take_at (joined v h) (drop (h * s) xs) (h * s) long in
      let back : drop (h * s + length (v h)) (painted xs s v h) ≡ drop (suc h * s) xs =
      sym (drop-drop (length (v h)) (h * s) (painted xs s v h)) ∙ (ap (λ z. drop (length (v h)) z) (ap (drop (h * s)) before ∙ drop_at (joined v h) (drop (h * s) xs) (h * s) long) ∙ (drop-drop (length (v h)) (h * s) xs ∙ ap (λ k. drop k xs) (omega (arith, e h (omega arith), suc-mul h s)))) in
      rw (front, back) (sym (append_assoc (joined v h) (v h) (drop (suc h * s) xs)))

  pub painted_full : (xs : List X) (s : ℕ) (v : ℕ → List X) (h : ℕ) → ((y : ℕ) → y < h → length (v y) ≡ s) → length xs ≡ h * s → painted xs s v h ≡ joined v h
  painted_full xs s v h e long = painted-joined xs s v h e (omega arith) ∙ (ap (λ z. joined v h ++ z) (drop_all (h * s) xs (omega arith)) ∙ append-nil (joined v h))
