-- A buffer with an image laid into a sound store over it shows the image's pixels, and is as it was elsewhere.
use Rattle.std.proofs.Common.{◌≡◌, ℕ, ◌+◌, ◌-◌, ◌*◌, ◌/◌, ◌%◌, ◌<◌, ◌≤◌, ◌⊎◌, List, length, get_or, sym, ap, ◌∙◌, inl, inr, ⊎_elim, mul-le-mul_right, mod-lt, add-mul, one-mul, div-add-mod', arith, rules}
use Rattle.std.proofs.lemmas.List.{places, same_lists}
use Rattle.std.proofs.lemmas.Bool.{cases_lt}
use Rattle.std.proofs.lemmas.Nat.{div_below}
use Rattle.image.specs.Rows.{part, row}
use Rattle.image.specs.declared.numbers.Numbers.{Numbers}
use Rattle.image.specs.Stores.{pitch, row_length, place, laid, pixel, image_pixel, LaidOn}
use Rattle.image.proofs.Granted.{Sound}
use Rattle.image.proofs.Strides.{row_fits}
use Rattle.image.proofs.Painted.{length-painted, row-painted, gap_painted}

module _ {X : Type 0} where
  -- a part of a part
  pub part-part : (a m b n : ℕ) (xs : List X) → a + m ≤ n → part a m (part b n xs) ≡ part (b + a) m xs
  part-part a m b n xs h = same_lists _ _ (search (rules, places)) (λ i d l. grind (arith, places))

  module _ (n : Numbers) (im : List (List X)) (xs : List X) (ok : Sound n (length xs)) (even : (y : ℕ) → y < n.height → length (row im y) ≡ row_length n) where
    within : (y : ℕ) → y < n.height → y * pitch n + length (row im y) ≤ length xs
    within y l = omega (arith, even y l, row_fits y n.height (pitch n) (row_length n) (length xs) l ok.fits)

    narrow : (y : ℕ) → y < n.height → length (row im y) ≤ pitch n
    narrow y l = omega (arith, even y l, ok.wide)

    pixel_is : (x y : ℕ) → x < n.width → y < n.height → pixel n (laid n im xs) x y ≡ image_pixel n.channels im x y
    pixel_is x y a b =
        let c = n.channels in
        let le : (x + 1) * c ≤ n.width * c = mul-le-mul_right c (omega arith) in
        let in_row : x * c + c ≤ row_length n = omega (arith, add-mul x 1 c, one-mul c) in
        let there = row-painted xs (pitch n) (row im) n.height within narrow y b in
        sym (part-part (x * c) c (y * pitch n) (row_length n) (laid n im xs) in_row)
        ∙ ap (part (x * c) c) (ap (λ k. part (y * pitch n) k (laid n im xs)) (sym (even y b)) ∙ there)

    gap_is : (k : ℕ) (d : X) → ((x y i : ℕ) → x < n.width → y < n.height → i < n.channels → k ≡ place n x y + i → ⊥) → get_or (laid n im xs) k d ≡ get_or xs k d
    gap_is k d out =
        gap_painted xs (pitch n) (row im) n.height within k d
        (λ y b.
        let s = y * pitch n in
        let c = n.channels in
        let past : s ≤ k → (k < s) ⊎ (s + length (row im y) ≤ k) =
        λ low. ⊎_elim
        (λ high.
        let j = k - s in
        let short : j < n.width * c = omega (arith, even y b) in
        let x = div_below j c n.width ok.some_channels short in
        absurd (out (j / c) y (j % c) x b (mod-lt j ok.some_channels) (omega (arith, div-add-mod' j c))))
        inr (cases_lt k (s + length (row im y))) in
        ⊎_elim inl past (cases_lt k s))

    pub laid_on : LaidOn n im xs (laid n im xs)
    laid_on = record { length_kept = length-painted xs (pitch n) (row im) n.height within; pixels = pixel_is; gaps = gap_is }
