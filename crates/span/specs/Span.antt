-- Span: which elements an output covers, and their mean.
use Rattle.std.specs.Prelude.{ℕ, ◌+◌, ◌-◌, ◌*◌, ◌/◌, Bool, ◌||◌, List, [], ◌∷◌, length, sum_by, ◌==◌}
use Rattle.image.specs.Rows.{part}
use Rattle.sampler.specs.Functions.{place}
use Rattle.sampler.specs.declared.sampler.ResamplingFunction.{ResamplingFunction}
use Rattle.sampler.specs.declared.sampler.ResamplingFunction.TheVariants.{Box, Area}

abbrev pub span_knows : ResamplingFunction → Bool
span_knows f = place f == place Box || place f == place Area

-- of n elements and m outputs, the first element that the output x covers
abbrev pub span_low : ℕ → ℕ → ℕ → ℕ
span_low n m x = x * n / m

-- and the first past it that it does not: (x + 1) * n / m, rounded up
abbrev pub span_high : ℕ → ℕ → ℕ → ℕ
span_high n m x = ((x + 1) * n + m - 1) / m

abbrev pub span_bounds : ℕ → ℕ → ℕ → ℕ × ℕ
span_bounds n m x = (span_low n m x, span_high n m x)

-- a mean, rounded to the nearest whole number, a half up
abbrev pub rounded_mean : ℕ → ℕ → ℕ
rounded_mean sum count = (2 * sum + count) / (2 * count)

module _ {E : Type 0} where
  -- the elements of a line that the output x of m covers
  abbrev pub span_covered : List E → ℕ → ℕ → List E
  span_covered xs m x = part (span_low (length xs) m x) (span_high (length xs) m x - span_low (length xs) m x) xs

  module _ (level : E → ℕ) where
    abbrev pub span_mean : List E → ℕ
    span_mean xs = rounded_mean (sum_by level xs) (length xs)

    -- of: the element of a level
    abbrev pub span_value : (ℕ → E) → List E → ℕ → ℕ → List E
    span_value of xs m x = of (span_mean (span_covered xs m x)) ∷ []
