-- A copy of the rows of a source lays its image into a destination of the same size.
use Rattle.std.proofs.Common.{◌≡◌, ℕ, ◌*◌, ◌<◌, List, length, sym, ap, ◌∙◌, subst, arith}
use Rattle.image.specs.Rows.{RowsFit, row, painted}
use Rattle.image.specs.declared.numbers.Numbers.{Numbers}
use Rattle.image.specs.Stores.{pitch, row_length, image, laid, LaidOn}
use Rattle.image.proofs.Granted.{Sound, SameSize}
use Rattle.image.proofs.RowsOf.{length-rows, rows_even}
use Rattle.image.proofs.Laid.{laid_on}

-- the rows of a source fit in the place of a destination's of the same size
pub same_fit : (d s : Numbers) (len : ℕ) → Sound d len → SameSize d s → RowsFit (row_length s) (pitch d) s.height len
same_fit d s len a m =
    let f = a.fits in
    let w = a.wide in
    record { apart = rw (← m.width, ← m.channels) w; within = rw (← m.width, ← m.channels, ← m.height) f }

module _ {X : Type 0} where
  -- every row of a sound store has its length
  pub image_even : (s : Numbers) (xs : List X) → Sound s (length xs) → (y : ℕ) → y < s.height → length (row (image s xs) y) ≡ row_length s
  image_even s xs ok y l = rows_even xs (row_length s) (pitch s) s.height ok.fits y (omega (arith, length-rows xs (row_length s) (pitch s) s.height))

  -- rows written the pitch apart are the image laid
  pub laid_by : (d : Numbers) (im : List (List X)) (xs : List X) (t h : ℕ) → t ≡ pitch d → h ≡ d.height → painted xs t (row im) h ≡ laid d im xs
  laid_by d im xs t h p q = rw (p, q)

  pub copied_on : (d s : Numbers) (xs src ys : List X) → SameSize d s → Sound d (length xs) → Sound s (length src) → ys ≡ laid d (image s src) xs → LaidOn d (image s src) xs ys
  copied_on d s xs src ys m a b e =
      subst (λ (zs : List X). LaidOn d (image s src) xs zs) (sym e)
      (laid_on d (image s src) xs a
      (λ y l. image_even s src b y (omega (arith, m.height)) ∙ (ap (λ (k : ℕ). k * s.channels) (sym m.width) ∙ ap (λ (k : ℕ). d.width * k) (sym m.channels))))
