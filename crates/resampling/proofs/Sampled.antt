-- The image of the nearest pixels: its rows, and how it lies in a destination.
use Rattle.std.proofs.Common.{◌≡◌, ℕ, ◌*◌, ◌<◌, ◌≤◌, false, not, eqb, List, length, sym, ap, ◌∙◌, subst, arith}
use Rattle.std.proofs.lemmas.Bool.Decides.{nat_tests}
use Rattle.image.specs.Refusals.Answer.{granted}
use Rattle.image.specs.Rows.{row}
use Rattle.image.specs.declared.numbers.Numbers.{Numbers}
use Rattle.image.specs.Stores.{size_of, row_length, image, laid, LaidOn}
use Rattle.image.specs.declared.image_size.ImageSize.{ImageSize}
use Rattle.image.proofs.Copied.{image_even}
use Rattle.image.proofs.Granted.{Clear, clear, at_most, Sound}
use Rattle.image.proofs.Laid.{laid_on}
use Rattle.image.proofs.RowsOf.{row_listed}
use Rattle.convolution.specs.Meaning.{dimension_limit}
use Rattle.values.specs.Nearest.{nearest, nearest_row, nearest_image, nearest_pixels, nearest_checks, between_answer}
use Rattle.values.proofs.Within.{nearest_below}
use Rattle.resampling.proofs.Taken.{length-nearest_row}

-- what the call's own checks show when they grant
pub record Between (d s : Numbers) : Type 0 where
  pub channels : d.channels ≡ s.channels
  pub source_width : s.width ≤ dimension_limit
  pub source_height : s.height ≤ dimension_limit
  pub target_width : d.width ≤ dimension_limit
  pub target_height : d.height ≤ dimension_limit

equal : (a b : ℕ) → not (eqb a b) ≡ false → a ≡ b
equal a b e = grind (arith, nat_tests)

pub between : (d s : Numbers) → granted ≡ between_answer d s → Between d s
unfolding between_answer
between d s ok =
    let p : Clear (nearest_checks d s) = clear (nearest_checks d s) ok in
    record {
      channels = equal d.channels s.channels p.0;
      source_width = at_most _ _ p.1.0;
      source_height = at_most _ _ p.1.1.0;
      target_width = at_most _ _ p.1.1.1.0;
      target_height = at_most _ _ p.1.1.1.1.0;
    }

module _ {X : Type 0} where
  -- row y of the image, from the row that it is taken from
  pub sampled_row : (c : ℕ) (s t : ImageSize) (im : List (List X)) (y : ℕ) → y < t.height → row (nearest_image c s t im) y ≡ nearest_row c s.width t.width (row im (nearest s.height t.height y))
  sampled_row c s t im y l = row_listed (λ z. nearest_row c s.width t.width (row im (nearest s.height t.height z))) t.height y l

  -- every row of it is as long as the destination's
  sampled_even : (d s : Numbers) (src : List X) → Sound s (length src) → Between d s → (y : ℕ) → y < d.height → length (row (nearest_pixels d s src) y) ≡ row_length d
  sampled_even d s src ok m y l =
      let k = nearest s.height d.height y in
      ap length (sampled_row s.channels (size_of s) (size_of d) (image s src) y l)
      ∙ length-nearest_row (row (image s src) k) s.width d.width s.channels ok.some_width (image_even s src ok k (nearest_below s.height d.height y l ok.some_height))
      ∙ ap (λ (z : ℕ). d.width * z) (sym m.channels)

  pub sampled_on : (d s : Numbers) (xs src ys : List X) → Sound d (length xs) → Sound s (length src) → Between d s → ys ≡ laid d (nearest_pixels d s src) xs → LaidOn d (nearest_pixels d s src) xs ys
  sampled_on d s xs src ys a b m e =
      subst (λ (zs : List X). LaidOn d (nearest_pixels d s src) xs zs) (sym e)
      (laid_on d (nearest_pixels d s src) xs a (sampled_even d s src b m))
