-- Which source pixels a nearest stage takes, and what its call answers.
use Rattle.std.specs.Prelude.{ℕ, ◌+◌, ◌*◌, ◌/◌, ◌^◌, not, List, [], ◌∷◌, ◌==◌}
use Rattle.image.specs.Refusals.{Answer, Check, check, answer, and_then}
use Rattle.image.specs.Rows.{part, row, listed, joined}
use Rattle.image.specs.declared.numbers.Numbers.{Numbers}
use Rattle.image.specs.Stores.{size_of, source_answer, target_answer, image}
use Rattle.image.specs.declared.image_size.ImageSize.{ImageSize}
use Rattle.planner.specs.Plans.{limit_check}

-- how far one target pixel reaches in a source of n pixels for m, in parts of 2^32
abbrev pub scale : ℕ → ℕ → ℕ
scale n m = n * 2 ^ 32 / m

-- the source pixel of the target pixel x
unfoldable pub nearest : ℕ → ℕ → ℕ → ℕ
nearest n m x = (x * scale n m + scale n m / 2) / 2 ^ 32

module _ {E : Type 0} where
  -- the m pixels that are taken from a row of n
  abbrev pub nearest_row : ℕ → ℕ → ℕ → List E → List E
  nearest_row c n m xs = joined (λ x. part (nearest n m x * c) c xs) m

  abbrev pub nearest_image : ℕ → ImageSize → ImageSize → List (List E) → List (List E)
  nearest_image c s t im = listed (λ y. nearest_row c s.width t.width (row im (nearest s.height t.height y))) t.height

module _ {E : Type 0} where
  -- what a destination of the numbers d shows of a source of the numbers s
  abbrev pub nearest_pixels : Numbers → Numbers → List E → List (List E)
  nearest_pixels d s src = nearest_image s.channels (size_of s) (size_of d) (image s src)

-- the call's own checks, after those of the two stores: the channels are the source's, and no dimension is too large
abbrev pub nearest_checks : Numbers → Numbers → List Check
nearest_checks d s =
    check (not (d.channels == s.channels)) 13 (s.channels ∷ d.channels ∷ [])
    ∷ limit_check s.width
    ∷ limit_check s.height
    ∷ limit_check d.width
    ∷ limit_check d.height
    ∷ []

unfoldable pub between_answer : Numbers → Numbers → Answer
between_answer d s = answer (nearest_checks d s)

abbrev pub nearest_answer : ℕ → Numbers → ℕ → Numbers → ℕ → Answer
nearest_answer e d d_len s s_len = and_then (target_answer e d d_len) (and_then (source_answer e s s_len) (between_answer d s))
