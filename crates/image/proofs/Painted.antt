-- What a buffer holds after rows were written into it.
use Rattle.std.proofs.Common.{◌≡◌, ℕ, zero, suc, ◌+◌, ◌*◌, ◌<◌, ◌≤◌, ◌⊎◌, List, length, get_or, sym, refl, ap, ◌∙◌, ⊎_elim, add-zero, add-suc, mul-le-mul_right, suc-mul, add-mul, arith, rules}
use Rattle.std.proofs.lemmas.List.{places}
use Rattle.std.proofs.lemmas.Bool.{cases_lt}
use borrow.Rule.Slice.PartMut.{put_mid}
use Rattle.image.specs.Rows.{part, put, painted}
use Rattle.image.proofs.Paint.{put_mid-put}
use Rattle.image.proofs.Puts.{length-put, get_or-put_below, get_or-put_above, put-put, part-put, part_below_put, put-part}

module _ {X : Type 0} where
  -- each of the h rows lies within the buffer
  abbrev pub Within : List X → ℕ → (ℕ → List X) → ℕ → Type 0
  Within xs s v h = (y : ℕ) → y < h → y * s + length (v y) ≤ length xs

  pub length-painted : (xs : List X) (s : ℕ) (v : ℕ → List X) (h : ℕ) → Within xs s v h → length (painted xs s v h) ≡ length xs
  unfolding painted
  length-painted xs s v zero w = refl
  length-painted xs s v (suc h) w =
      let before = length-painted xs s v h (λ y l. w y (omega arith)) in
      length-put (h * s) (v h) (painted xs s v h) (omega (arith, w h (omega arith))) ∙ before

  -- each row is there
  pub row-painted : (xs : List X) (s : ℕ) (v : ℕ → List X) (h : ℕ) → Within xs s v h → ((y : ℕ) → y < h → length (v y) ≤ s) → (y : ℕ) → y < h → part (y * s) (length (v y)) (painted xs s v h) ≡ v y
  unfolding painted
  row-painted xs s v zero w n y l = absurd (omega arith)
  row-painted xs s v (suc h) w n y l =
      let before = length-painted xs s v h (λ z m. w z (omega arith)) in
      let whole = w h (omega arith) in
      let older : y < h → part (y * s) (length (v y)) (painted xs s v (suc h)) ≡ v y =
      λ m. let apart : suc y * s ≤ h * s = mul-le-mul_right s (omega arith) in
      part_below_put (y * s) (length (v y)) (h * s) (v h) (painted xs s v h) (omega (arith, suc-mul y s, n y l)) (omega arith) ∙ row-painted xs s v h (λ z m. w z (omega arith)) (λ z m. n z (omega arith)) y m in
      let newest : h ≤ y → part (y * s) (length (v y)) (painted xs s v (suc h)) ≡ v y =
      λ m. let e : y ≡ h = omega arith in rw e (part-put (h * s) (v h) (painted xs s v h) (omega arith)) in
      ⊎_elim older newest (cases_lt y h)

  -- what lies in no row is as it was
  pub gap_painted : (xs : List X) (s : ℕ) (v : ℕ → List X) (h : ℕ) → Within xs s v h → (i : ℕ) (d : X) → ((y : ℕ) → y < h → (i < y * s) ⊎ (y * s + length (v y) ≤ i)) → get_or (painted xs s v h) i d ≡ get_or xs i d
  unfolding painted
  gap_painted xs s v zero w i d out = refl
  gap_painted xs s v (suc h) w i d out =
      let before = length-painted xs s v h (λ y l. w y (omega arith)) in
      let whole = w h (omega arith) in
      let rest = gap_painted xs s v h (λ y l. w y (omega arith)) i d (λ y l. out y (omega arith)) in
      ⊎_elim
      (λ b. get_or-put_below (h * s) (v h) (painted xs s v h) i d (omega arith) b ∙ rest)
      (λ a. get_or-put_above (h * s) (v h) (painted xs s v h) i d (omega arith) a ∙ rest)
      (out h (omega arith))

  -- rows painted into a part from row y on are the next rows of the whole
  pub painted_join : (xs : List X) (s : ℕ) (v : ℕ → List X) (y k j : ℕ) (w : ℕ → List X) → y * s + k ≤ length (painted xs s v y) → ((i : ℕ) → i < j → i * s + length (w i) ≤ k) → ((i : ℕ) → i < j → w i ≡ v (y + i)) → put (y * s) (painted (part (y * s) k (painted xs s v y)) s w j) (painted xs s v y) ≡ painted xs s v (y + j)
  unfolding painted
  painted_join xs s v y k zero w h f same = put-part (y * s) k (painted xs s v y) h ∙ ap (painted xs s v) (sym (add-zero y))
  painted_join xs s v y k (suc j) w h f same =
      let P = part (y * s) k (painted xs s v y) in
      let long : length P ≡ k = search (rules, places) in
      let held : length (painted P s w j) ≡ k = length-painted P s w j (λ i l. omega (arith, f i (omega arith))) ∙ long in
      let inside = f j (omega arith) in
      let step = put-put (y * s) (j * s) (painted P s w j) (w j) (painted xs s v y) (omega arith) (omega arith) in
      let rest = painted_join xs s v y k j w h (λ i l. f i (omega arith)) (λ i l. same i (omega arith)) in
      let is = same j (omega arith) in
      step ∙ (rw (add-suc, add-mul, rest, is))

  -- a part that was painted, in the place of the part
  pub painted_batch : (xs dst ys : List X) (s y a k j : ℕ) (v w : ℕ → List X) → dst ≡ painted xs s v y → a ≡ y * s → ys ≡ painted (part a k dst) s w j → a + k ≤ length dst → ((i : ℕ) → i < j → i * s + length (w i) ≤ k) → ((i : ℕ) → i < j → w i ≡ v (y + i)) → put_mid a k dst ys ≡ painted xs s v (y + j)
  painted_batch xs dst ys s y a k j v w was at is fits rows same =
      let long : length (part a k dst) ≡ k = search (rules, places) in
      let held : length ys ≡ k = ap length is ∙ (length-painted (part a k dst) s w j (λ i l. omega (arith, rows i l)) ∙ long) in
      let joined = painted_join xs s v y k j w (omega (arith, ap length was)) rows same in
      put_mid-put a k dst ys (sym held) ∙ (rw (is, at, was) joined)
