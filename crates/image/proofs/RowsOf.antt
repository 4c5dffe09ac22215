-- The rows of a buffer.
use Rattle.std.proofs.Common.{◌≡◌, ℕ, zero, suc, ◌+◌, ◌-◌, ◌*◌, ◌<◌, ◌≤◌, min, List, [], length, take, drop, drop-drop, length-take, length-drop, add-mul, sym, refl, ap, ◌∙◌, arith, rules}
use Rattle.std.proofs.lemmas.List.{places, get_or_past, same_lists, get_or-take, get_or-drop, take_all, drop_all}
use Rattle.std.proofs.lemmas.List.FromFn.{length-map-range_with_len, get_or-map-range_with_len}
use Rattle.image.specs.Rows.{part, listed, rows, row, painted}
use Rattle.image.proofs.Strides.{row_fits}

module _ {X : Type 0} where
  pub length-listed : (v : ℕ → List X) (h : ℕ) → length (listed v h) ≡ h
  unfolding listed
  length-listed v h = length-map-range_with_len v 0 h

  pub row_listed : (v : ℕ → List X) (h y : ℕ) → y < h → row (listed v h) y ≡ v y
  unfolding listed
  row_listed v h y l = get_or-map-range_with_len v 0 h y y [] l (omega arith)

  pub length-rows : (xs : List X) (n s h : ℕ) → length (rows xs n s h) ≡ h
  length-rows xs n s h = length-listed (λ y. part (y * s) n xs) h

  pub row-rows : (xs : List X) (n s h y : ℕ) → y < h → row (rows xs n s h) y ≡ part (y * s) n xs
  row-rows xs n s h y l = row_listed (λ y. part (y * s) n xs) h y l

  -- the same, under a name that an attribute can say
  pub ruleset row_within = (row-rows)

  -- and none past the last
  pub no_rows_from : (xs : List X) (n s h y k : ℕ) → h ≤ y → rows xs n s 0 ≡ take k (drop y (rows xs n s h))
  unfolding listed
  no_rows_from xs n s h y k l =
      sym (ap (take k) (drop_all y (rows xs n s h) (omega (arith, length-rows xs n s h))) ∙ take_all k [] (omega arith))

  -- past the last row there is nothing
  pub row_past : (xs : List X) (n s h y : ℕ) → h ≤ y → row (rows xs n s h) y ≡ []
  row_past xs n s h y l = get_or_past (rows xs n s h) y [] (omega (arith, length-rows xs n s h))

  -- the rows from row y on, k of them or as many as there are
  pub rows_from : (xs : List X) (n s h y k : ℕ) → y < h → rows (drop (y * s) xs) n s (min k (h - y)) ≡ take k (drop y (rows xs n s h))
  unfolding listed
  rows_from xs n s h y k l =
      let all = length-rows xs n s h in
      let some = length-rows (drop (y * s) xs) n s (min k (h - y)) in
      same_lists _ _ (omega (arith, length-take k (drop y (rows xs n s h)), length-drop y (rows xs n s h)))
      (λ i d b.
      let here : i < min k (h - y) = omega arith in
      get_or-map-range_with_len (λ z. part (z * s) n (drop (y * s) xs)) 0 (min k (h - y)) i i d here (omega arith)
      ∙ (ap (take n) (drop-drop (i * s) (y * s) xs ∙ ap (λ a. drop a xs) (omega (arith, add-mul y i s)))
      ∙ (sym (get_or-map-range_with_len (λ z. part (z * s) n xs) 0 h (y + i) (y + i) d (omega arith) (omega arith))
      ∙ (sym (get_or-drop y (rows xs n s h) i d) ∙ sym (get_or-take k (drop y (rows xs n s h)) i d (omega arith))))))

  pub rows_even : (xs : List X) (n s h : ℕ) → s * (h - 1) + n ≤ length xs → (y : ℕ) → y < length (rows xs n s h) → length (row (rows xs n s h) y) ≡ n
  rows_even xs n s h fits y l =
      let below : y < h = omega (arith, length-rows xs n s h) in
      let within = row_fits y h s n (length xs) below fits in
      ap length (row-rows xs n s h y below) ∙ search (rules, places)

  pub painted_same : (xs : List X) (s : ℕ) (v w : ℕ → List X) (h : ℕ) → ((y : ℕ) → y < h → v y ≡ w y) → painted xs s v h ≡ painted xs s w h
  unfolding painted
  painted_same xs s v w zero e = refl
  painted_same xs s v w (suc h) e =
      let here = e h (omega arith) in
      let rest = painted_same xs s v w h (λ y l. e y (omega arith)) in
      rw (here, rest)

  -- painting the rows of an image that is listed is painting what it lists
  pub painted-listed : (xs : List X) (s : ℕ) (v : ℕ → List X) (h : ℕ) → painted xs s v h ≡ painted xs s (row (listed v h)) h
  painted-listed xs s v h = painted_same xs s v (row (listed v h)) h (λ y l. sym (row_listed v h y l))
