-- Where the nearest pixels of a row lie, and the row of them.
use Rattle.std.proofs.Common.{◌≡◌, ℕ, ◌+◌, ◌*◌, ◌/◌, ◌%◌, ◌<◌, ◌≤◌, List, length, get_or, sym, ap, ◌∙◌, add-zero, mul-le-mul_right, add-mul, one-mul, mul-one, arith, rules}
use Rattle.std.proofs.lemmas.List.{places}
use Rattle.std.proofs.lemmas.Nat.{mod_below, div-add-mod'}
use Rattle.image.specs.Rows.{part}
use Rattle.values.specs.Nearest.{nearest, nearest_row}
use Rattle.values.proofs.Shapes.{length_parts}
use Rattle.values.proofs.Within.{nearest_below}
use Rattle.resampling.proofs.Joined.{joined_from}

module _ {X : Type 0} where
  -- each pixel that is taken lies within the row
  pub pixel_length : (xs : List X) (n m c : ℕ) → 0 < n → length xs ≡ n * c → (x : ℕ) → x < m → length (part (nearest n m x * c) c xs) ≡ c
  pixel_length xs n m c p short x l =
      let le : (nearest n m x + 1) * c ≤ n * c = mul-le-mul_right c (omega (arith, nearest_below n m x l p)) in
      let fits : nearest n m x * c + c ≤ length xs = omega (arith, add-mul (nearest n m x) 1 c, one-mul c) in
      search (rules, places)

  pub length-nearest_row : (xs : List X) (n m c : ℕ) → 0 < n → length xs ≡ n * c → length (nearest_row c n m xs) ≡ m * c
  length-nearest_row xs n m c p short = length_parts (λ x. part (nearest n m x * c) c xs) c m (pixel_length xs n m c p short)

  -- elements taken so are a row of pixels of one element
  pub taken_row : (xs ys : List X) (n m : ℕ) → 0 < n → length xs ≡ n → length ys ≡ m → ((j : ℕ) (d : X) → j < m → get_or ys j d ≡ get_or xs (nearest n m j) d) → ys ≡ nearest_row 1 n m xs
  taken_row xs ys n m p short long each =
      let whole = mul-one n in
      let all = mul-one m in
      joined_from ys (λ x. part (nearest n m x * 1) 1 xs) 1 m (omega arith) (pixel_length xs n m 1 p (omega arith)) (omega arith)
      (λ j d l.
      let r : j % 1 ≡ 0 = omega (arith, mod_below j 1 (omega arith)) in
      let q : j / 1 ≡ j = omega (arith, div-add-mod' j 1, mul-one (j / 1)) in
      let s = mul-one (nearest n m j) in
      rw (q, r, s) (each j d (omega arith) ∙ (ap (λ (k : ℕ). get_or xs k d) (sym (add-zero (nearest n m j))) ∙ search (rules, places))))
