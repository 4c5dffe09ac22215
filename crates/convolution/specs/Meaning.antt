-- What a kernel family means, and what its runs are told.
use Rattle.std.specs.Prelude.{◌≡◌, Bool, true, List, ℕ, ◌*◌, ◌<◌, ◌≤◌, length}
use Rattle.image.specs.Rows.{row}
use Rattle.sampler.specs.declared.sampler.ResamplingFunction.{ResamplingFunction}
use Rattle.convolution.specs.declared.convolution.ConvolutionOptions.{ConvolutionOptions}

-- the largest dimension of an image that is resized
abbrev pub dimension_limit : ℕ
dimension_limit = 65535

abbrev pub Dimension : ℕ → Type 0
Dimension n = (0 < n) × (n ≤ dimension_limit)

-- the functions that a family knows, its column value and its row value
pub record Meaning (E : Type 0) : Type 0 where
  pub knows : ResamplingFunction → Bool
  -- function, channels, the rows of the source, target height, row of the target, depth: one row of the source's width
  pub column : ResamplingFunction → ℕ → List (List E) → ℕ → ℕ → ℕ → List E
  -- function, channels, one row, target width, depth: one row of the target's width
  pub across : ResamplingFunction → ℕ → List E → ℕ → ℕ → List E

-- the lengths of a family's values
pub record Shaped {E : Type 0} (m : Meaning E) : Type 0 where
  pub column_length : (f : ResamplingFunction) (c n : ℕ) (im : List (List E)) (h y d : ℕ) → 0 < length im → ((k : ℕ) → k < length im → length (row im k) ≡ n) → length (m.column f c im h y d) ≡ n
  pub across_length : (f : ResamplingFunction) (c n : ℕ) (xs : List E) (w d : ℕ) → 0 < n → length xs ≡ n * c → length (m.across f c xs w d) ≡ w * c

-- What every run may count on: 1 to 4 channels, sizes within the limit, and a checked depth if one is needed.
pub record Ready (deep : Bool) (o : ConvolutionOptions) : Type 0 where
  pub some_channels : 0 < o.channels
  pub few_channels : o.channels ≤ 4
  pub source_width : Dimension o.src_size.width
  pub source_height : Dimension o.src_size.height
  pub target_width : Dimension o.dst_size.width
  pub target_height : Dimension o.dst_size.height
  pub depth : deep ≡ true → (1 ≤ o.bit_depth) × (o.bit_depth ≤ 16)

-- the elements of one row of the source, and of the target
abbrev pub source_row : ConvolutionOptions → ℕ
source_row o = o.src_size.width * o.channels

abbrev pub target_row : ConvolutionOptions → ℕ
target_row o = o.dst_size.width * o.channels

module _ {E : Type 0} (m : Meaning E) (o : ConvolutionOptions) (im : List (List E)) where
  -- the column value at row y of the target, of an image
  abbrev pub column_value : ℕ → List E
  column_value y = m.column o.function o.channels im o.dst_size.height y o.bit_depth

  -- the row value of row y of an image
  abbrev pub row_value : ℕ → List E
  row_value y = m.across o.function o.channels (row im y) o.dst_size.width o.bit_depth
