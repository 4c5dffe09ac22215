-- Families that make each output element from the elements of one channel along one axis.
use Rattle.std.specs.Prelude.{ℕ, ◌+◌, ◌*◌, ◌/◌, Bool, List, length}
use Rattle.image.specs.Rows.{part, row, joined}
use Rattle.sampler.specs.declared.sampler.ResamplingFunction.{ResamplingFunction}
use Rattle.convolution.specs.Meaning.{Meaning}

module _ {E : Type 0} where
  -- the n elements at k, k + s, k + 2 * s ..
  unfoldable pub line : List E → ℕ → ℕ → ℕ → List E
  line xs k s n = joined (λ i. part (k + i * s) 1 xs) n

  -- element j of each row of an image
  unfoldable pub column_line : List (List E) → ℕ → List E
  column_line im j = joined (λ i. part j 1 (row im i)) (length im)

  -- value: a line, the target length, the output's number; the output as a list of one element
  abbrev pub line_meaning : (ResamplingFunction → Bool) → (List E → ℕ → ℕ → List E) → Meaning E
  line_meaning knows value = record {
    knows = knows;
    column = λ f c im h y d. joined (λ j. value (column_line im j) h y) (length (row im 0));
    across = λ f c xs w d. joined (λ x. joined (λ k. value (line xs k c (length xs / c)) w x) c) w;
  }
