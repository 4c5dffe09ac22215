-- Tent: where an output lies, and what it is between two elements.
use Rattle.std.specs.Prelude.{ℕ, ◌+◌, ◌-◌, ◌*◌, ◌/◌, ◌%◌, min, Bool, List, [], ◌∷◌, length, pos, ◌==◌, from_bits, slice_index_or, Float}
use Rattle.std.specs.Float.{binary32}
use Rattle.std.specs.Float.Ieee.{of_int, add, mul, div}
use Rattle.sampler.specs.Functions.{place}
use Rattle.sampler.specs.declared.sampler.ResamplingFunction.{ResamplingFunction}
use Rattle.sampler.specs.declared.sampler.ResamplingFunction.TheVariants.{Bilinear}

abbrev pub tent_knows : ResamplingFunction → Bool
tent_knows f = place f == place Bilinear

-- of n elements and m outputs, how far the output x lies past the first element, or 0 if it lies before it;
-- 2 * m steps reach from one element to the next
abbrev pub tent_distance : ℕ → ℕ → ℕ → ℕ
tent_distance n m x = (2 * x + 1) * n - m

-- index and remainder
abbrev pub tent_place : ℕ → ℕ → ℕ → ℕ × ℕ
tent_place n m x = (tent_distance n m x / (2 * m), tent_distance n m x % (2 * m))

-- f steps of 2 * m on the way from the level a to b, rounded to the nearest whole number, a half up
abbrev pub tent_blend : ℕ → ℕ → ℕ → ℕ → ℕ
tent_blend a b m f = (a * (2 * m - f) + b * f + m) / (2 * m)

-- a whole number as a 32-bit float
abbrev single : ℕ → Float
single n = of_int binary32 (pos n)

-- the same on floats, each operation rounded once
abbrev pub float_blend : Float → Float → ℕ → ℕ → Float
float_blend a b m f =
    add binary32 (mul binary32 a (div binary32 (single (2 * m - f)) (single (2 * m)))) (mul binary32 b (div binary32 (single f) (single (2 * m))))

module _ {E : Type 0} where
  -- the output x of m, from the element at its index and the next, which at the end is the last again
  abbrev pub tent_between : E → (E → E → ℕ → ℕ → E) → List E → ℕ → ℕ → E
  tent_between default blend xs m x =
      let i = (tent_place (length xs) m x).0 in
      let f = (tent_place (length xs) m x).1 in
      blend (slice_index_or xs i default) (slice_index_or xs (min (i + 1) (length xs - 1)) default) m f

  -- of: the element of a level
  abbrev pub tent_value : (E → ℕ) → (ℕ → E) → List E → ℕ → ℕ → List E
  tent_value level of xs m x = tent_between (of 0) (λ a b m f. of (tent_blend (level a) (level b) m f)) xs m x ∷ []

abbrev pub float_value : List Float → ℕ → ℕ → List Float
float_value xs m x = tent_between (from_bits binary32 0) float_blend xs m x ∷ []
