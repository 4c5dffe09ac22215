-- Rows that were written up to a place, and are written on from there, all of them at once.
use Rattle.std.proofs.Common.{◌≡◌, ℕ, zero, suc, ◌+◌, ◌*◌, ◌<◌, ◌≤◌, List, [], ◌++◌, length, sym, refl, ap, ◌∙◌, add-zero, mul-le-mul_right, suc-mul, arith, length-append, rules}
use Rattle.std.proofs.lemmas.List.{places, same_lists, take-append-drop}
use borrow.Rule.Slice.PartMut.{put_mid}
use Rattle.image.specs.Rows.{part, put, painted}
use Rattle.image.proofs.Paint.{put_mid-put}
use Rattle.image.proofs.Puts.{length-put, put-put, put-part}
use Rattle.image.proofs.Painted.{length-painted}
use Rattle.image.proofs.RowsOf.{painted_same}

module _ {X : Type 0} where
  -- xs with w 0, w 1 .. written, h of them, w y from the place a + y * s on
  shifted : List X → ℕ → ℕ → (ℕ → List X) → ℕ → List X
  shifted xs a s w zero = xs
  shifted xs a s w (suc h) = put (a + h * s) (w h) (shifted xs a s w h)

  put_below_put : (a b : ℕ) (ys zs xs : List X) → a + length ys ≤ b → b + length zs ≤ length xs → put a ys (put b zs xs) ≡ put b zs (put a ys xs)
  put_below_put a b ys zs xs apart fits = same_lists _ _ (search (rules, places)) (λ i d l. grind (arith, places))

  put_after_put : (a b : ℕ) (ys zs xs : List X) → a ≡ length zs → b + (a + length ys) ≤ length xs → put (a + b) ys (put b zs xs) ≡ put b (zs ++ ys) xs
  put_after_put a b ys zs xs long fits = same_lists _ _ (search (rules, places)) (λ i d l. grind (arith, places))

  length_shifted : (xs : List X) (a s : ℕ) (w : ℕ → List X) (h : ℕ) → ((i : ℕ) → i < h → a + i * s + length (w i) ≤ length xs) → length (shifted xs a s w h) ≡ length xs
  unfolding shifted
  length_shifted xs a s w zero f = refl
  length_shifted xs a s w (suc h) f =
      let before = length_shifted xs a s w h (λ i l. f i (omega arith)) in
      length-put (a + h * s) (w h) (shifted xs a s w h) (omega (arith, f h (omega arith))) ∙ before

  -- rows painted into a part from the place a on
  part_shifted : (xs : List X) (a k s : ℕ) (w : ℕ → List X) (h : ℕ) → a + k ≤ length xs → ((i : ℕ) → i < h → i * s + length (w i) ≤ k) → put a (painted (part a k xs) s w h) xs ≡ shifted xs a s w h
  unfolding painted shifted
  part_shifted xs a k s w zero fits f = put-part a k xs fits
  part_shifted xs a k s w (suc h) fits f =
      let long : length (part a k xs) ≡ k = search (rules, places) in
      let held : length (painted (part a k xs) s w h) ≡ k = length-painted (part a k xs) s w h (λ i l. omega (arith, f i (omega arith))) ∙ long in
      let inside = f h (omega arith) in
      put-put a (h * s) (painted (part a k xs) s w h) (w h) xs (omega arith) (omega arith)
      ∙ ap (put (a + h * s) (w h)) (part_shifted xs a k s w h fits (λ i l. f i (omega arith)))

  -- a write past all of them
  shifted_put : (xs zs : List X) (a b s : ℕ) (w : ℕ → List X) (h : ℕ) → b + length zs ≤ length xs → ((i : ℕ) → i < h → a + i * s + length (w i) ≤ b) → shifted (put b zs xs) a s w h ≡ put b zs (shifted xs a s w h)
  unfolding shifted
  shifted_put xs zs a b s w zero fits f = refl
  shifted_put xs zs a b s w (suc h) fits f =
      let held = length_shifted xs a s w h (λ i l. omega (arith, f i (omega arith))) in
      ap (put (a + h * s) (w h)) (shifted_put xs zs a b s w h fits (λ i l. f i (omega arith)))
      ∙ put_below_put (a + h * s) b (w h) zs (shifted xs a s w h) (f h (omega arith)) (omega arith)

  -- row i holds a elements and gets c more, which lie within xs
  pub record Growing (xs : List X) (s a c : ℕ) (v w : ℕ → List X) (i : ℕ) : Type 0 where
    pub begun : length (v i) ≡ a
    pub more : length (w i) ≡ c
    pub within : i * s + (a + c) ≤ length xs

  module _ (xs : List X) (s a c : ℕ) (v w : ℕ → List X) (narrow : a + c ≤ s) where
    shifted_painted : (h : ℕ) → ((i : ℕ) → i < h → Growing xs s a c v w i) → shifted (painted xs s v h) a s w h ≡ painted xs s (λ i. v i ++ w i) h
    unfolding shifted painted
    shifted_painted zero f = refl
    shifted_painted (suc h) f =
        let here = f h (omega arith) in
        let held = length-painted xs s v h (λ i l. let r = f i (omega arith) in omega arith) in
        let kept = length-painted xs s (λ i. v i ++ w i) h (λ i l. let r = f i (omega arith) in omega (arith, length-append (v i) (w i))) in
        ap (put (a + h * s) (w h))
        (shifted_put (painted xs s v h) (v h) a (h * s) s w h (omega arith)
        (λ i l. let r = f i (omega arith) in omega (arith, suc-mul i s, mul-le-mul_right s l))
        ∙ ap (put (h * s) (v h)) (shifted_painted h (λ i l. f i (omega arith))))
        ∙ put_after_put a (h * s) (w h) (v h) (painted xs s (λ i. v i ++ w i) h) (sym here.begun) (omega arith)

    -- c more elements for each of h rows, painted into what follows the place a
    pub painted_grown : (dst ys : List X) (k h : ℕ) (u : ℕ → List X) → dst ≡ painted xs s v h → ys ≡ painted (part a k dst) s w h → a + k ≡ length dst → ((i : ℕ) → i < h → Growing xs s a c v w i) → ((i : ℕ) → u i ≡ v i ++ w i) → put_mid a k dst ys ≡ painted xs s u h
    painted_grown dst ys k h u was is fits f same =
        let inside : (i : ℕ) → i < h → i * s + length (w i) ≤ k = λ i l. let r = f i l in omega (arith, ap length was, length-painted xs s v h (λ j m. let q = f j m in omega arith)) in
        let long : length (part a k dst) ≡ k = search (rules, places) in
        let held : length ys ≡ k = ap length is ∙ (length-painted (part a k dst) s w h (λ i l. omega (arith, inside i l)) ∙ long) in
        put_mid-put a k dst ys (sym held)
        ∙ (ap (λ (zs : List X). put a zs dst) is
        ∙ (part_shifted dst a k s w h (omega arith) inside
        ∙ (ap (λ (zs : List X). shifted zs a s w h) was
        ∙ (shifted_painted h f
        ∙ painted_same xs s _ u h (λ i l. sym (same i))))))

  pub painted_empty : (xs : List X) (s : ℕ) (v : ℕ → List X) (h : ℕ) → ((i : ℕ) → v i ≡ []) → xs ≡ painted xs s v h
  unfolding painted
  painted_empty xs s v zero e = refl
  painted_empty xs s v (suc h) e =
      let here = e h in
      let rest = sym (painted_empty xs s v h e) in
      rw (here, rest, add-zero) (sym (take-append-drop (h * s) xs))
