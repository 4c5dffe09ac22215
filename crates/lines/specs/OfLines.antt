-- Lines in a buffer, and how many outputs there are.
use Rattle.std.specs.Prelude.{◌≡◌, ℕ, zero, suc, ◌+◌, ◌-◌, ◌*◌, ◌/◌, ◌<◌, ◌≤◌, Bool, List, [], length, take, drop}
use Rattle.std.proofs.Common.{sym, ◌∙◌, suc-mul, mul_comm, add_comm, add-mul, mul-le-mul_right, mul-div_cancel, arith, rules}
use Rattle.std.proofs.Math.Path.{ap}
use Rattle.std.proofs.Math.Nat.{mul-one}
use Rattle.std.proofs.lemmas.List.{places, get_or-take, get_or-drop}
use Rattle.image.specs.Rows.{part, rows, row, joined, painted}
use Rattle.image.specs.Images.{image_of}
use Rattle.image.specs.declared.source_rows.SourceRows.{SourceRows}
use Rattle.image.proofs.Strides.{row_fits}
pub use Rattle.image.proofs.Strides.{pixels_within as packed}
use Rattle.image.proofs.RowsOf.{length-rows, row-rows, rows_even, painted_same}
use Rattle.image.proofs.Laid.{part-part}
use Rattle.sampler.specs.declared.sampler.ResamplingFunction.{ResamplingFunction}
use Rattle.convolution.specs.Meaning.{Meaning, Shaped, source_row, row_value}
use Rattle.convolution.specs.declared.convolution.ConvolutionOptions.{ConvolutionOptions}
use Rattle.lines.specs.Lines.{line, column_line, line_meaning}
use Rattle.lines.specs.Along.{pixel}
use Rattle.lines.specs.Joins.{joined_none, joined_same, length-joined_below}

pub pixel_count : (c n len : ℕ) → 0 < c → len ≡ n * c → len / c ≡ n
pixel_count c n len some long = ap (λ (k : ℕ). k / c) long ∙ mul-div_cancel n some

-- pixel x of m pixels lies within them
pub pixel_fits : (x m c : ℕ) → x < m → x * c + c ≤ m * c
pixel_fits x m c below = omega (arith, suc-mul x c, mul-le-mul_right c below)

-- the last of four rows from row y on lies within the buffer
pub last_of_four : (y h s n len : ℕ) → y + 4 ≤ h → s * (h - 1) + n ≤ len → y * s + (s * 3 + n) ≤ len
last_of_four y h s n len below fits = omega (arith, row_fits (y + 3) h s n len (omega arith) fits, add-mul y 3 s, mul_comm 3 s)

module _ {X : Type 0} where
  -- a part as a range has it
  pub part_range : (xs : List X) (a n : ℕ) → take (a + n - a) (drop a xs) ≡ part a n xs
  part_range xs a n = ap (λ (k : ℕ). take k (drop a xs)) (omega arith)

  pub length_range : (xs : List X) (a n : ℕ) → a + n ≤ length xs → length (take (a + n - a) (drop a xs)) ≡ n
  length_range xs a n fits = ap length (part_range xs a n) ∙ search (rules, places)

  pub length-row : (xs : List X) (i h s n : ℕ) → i < h → s * (h - 1) + n ≤ length xs → length (part (i * s) n xs) ≡ n
  length-row xs i h s n below fits = let within = row_fits i h s n (length xs) below fits in search (rules, places)

  -- the length of a row that was lent
  pub row_even : (r : SourceRows X) (y : ℕ) → y < r.height → length (row (image_of r) y) ≡ r.row_length
  row_even r y below = rows_even r.elements.now r.row_length r.stride r.height r.fit.within y (omega (arith, length-rows r.elements.now r.row_length r.stride r.height))

  pub length-line : (xs : List X) (k s n : ℕ) → s * (n - 1) + suc k ≤ length xs → length (line xs k s n) ≡ n
  unfolding line
  length-line xs k s n fits =
      length-joined_below (λ i. part (k + i * s) 1 xs) 1 n (λ i l. let within = row_fits i n s (suc k) (length xs) l fits in search (rules, places)) ∙ mul-one n

  pub length-column_line : (im : List (List X)) (n j : ℕ) → ((k : ℕ) → k < length im → length (row im k) ≡ n) → j < n → length (column_line im j) ≡ length im
  unfolding column_line
  length-column_line im n j even below =
      length-joined_below (λ i. part j 1 (row im i)) 1 (length im) (λ i l. let long = even i l in search (rules, places)) ∙ mul-one (length im)

  -- a column of the rows of a buffer is a line of the buffer
  pub column_of_rows : (xs : List X) (n s h j : ℕ) → j < n → column_line (rows xs n s h) j ≡ line xs j s h
  unfolding column_line line
  column_of_rows xs n s h j below =
      ap (joined (λ i. part j 1 (row (rows xs n s h) i))) (length-rows xs n s h)
      ∙ joined_same _ _ h (λ i l.
      ap (part j 1) (row-rows xs n s h i l) ∙ (part-part j 1 (i * s) n xs (omega arith) ∙ ap (λ (p : ℕ). part p 1 xs) (add_comm (i * s) j)))

  module _ (value : List X → ℕ → ℕ → List X) (one : (xs : List X) (m x : ℕ) → 0 < length xs → length (value xs m x) ≡ 1) where
    -- c lines beside each other have c outputs
    pub length_outputs : (xs : List X) (s n c m x : ℕ) → 0 < n → s * (n - 1) + c ≤ length xs → length (joined (λ k. value (line xs k s n) m x) c) ≡ c
    length_outputs xs s n c m x some fits =
        length-joined_below _ 1 c (λ k l. one _ m x (omega (arith, length-line xs k s n (omega arith)))) ∙ mul-one c

    length-columns : (n : ℕ) (im : List (List X)) (h y : ℕ) → 0 < length im → ((k : ℕ) → k < length im → length (row im k) ≡ n) → length (joined (λ j. value (column_line im j) h y) (length (row im 0))) ≡ n
    length-columns n im h y some even =
        let first = even 0 some in
        length-joined_below _ 1 _ (λ j l. one _ h y (omega (arith, length-column_line im n j even (omega arith)))) ∙ (mul-one _ ∙ first)

    length_across : (c n : ℕ) (xs : List X) (w : ℕ) → 0 < n → length xs ≡ n * c → length (joined (pixel value xs c (length xs / c) w) w) ≡ w * c
    length_across zero n xs w some long = length-joined_below _ 0 w (λ x l. ap length (joined_none _))
    length_across (suc c) n xs w some long =
        let pixels = pixel_count (suc c) n (length xs) (omega arith) long in
        length-joined_below _ (suc c) w (λ x l. length_outputs xs (suc c) (length xs / suc c) (suc c) w x (omega arith) (rw pixels (omega (arith, packed n (suc c) some))))

    -- the outputs of the lines of a buffer are those of the columns of its rows
    pub outputs_columns : (xs : List X) (n s h m y : ℕ) → 0 < h → s * (h - 1) + n ≤ length xs → joined (λ k. value (line xs k s h) m y) n ≡ joined (λ j. value (column_line (rows xs n s h) j) m y) (length (row (rows xs n s h) 0))
    outputs_columns xs n s h m y some fits =
        let first = rows_even xs n s h fits 0 (omega (arith, length-rows xs n s h)) in
        joined_same _ _ n (λ k l. ap (λ (zs : List X). value zs m y) (sym (column_of_rows xs n s h k l)))
        ∙ ap (joined (λ j. value (column_line (rows xs n s h) j) m y)) (sym first)

    -- the outputs of each pixel of a row of n pixels are its row value
    pub across_outputs : (xs : List X) (c n w : ℕ) → 0 < c → length xs ≡ n * c → joined (pixel value xs c n w) w ≡ joined (pixel value xs c (length xs / c) w) w
    across_outputs xs c n w some long = ap (λ (p : ℕ). joined (pixel value xs c p w) w) (sym (pixel_count c n (length xs) some long))

    -- the outputs of four rows of pixels of c elements are their row values
    pub across_four : (knows : ResamplingFunction → Bool) (o : ConvolutionOptions) (im : List (List X)) (dst : List X) (t c : ℕ) → o.channels ≡ c → 0 < o.channels → ((i : ℕ) → i < 4 → length (row im i) ≡ source_row o)
        → painted dst t (λ i. joined (pixel value (row im i) c o.src_size.width o.dst_size.width) o.dst_size.width) 4
        ≡ painted dst t (row_value (line_meaning knows value) o im) 4
    across_four knows o im dst t c is some even =
        let n = o.src_size.width in
        let m = o.dst_size.width in
        ap (λ (c : ℕ). painted dst t (λ i. joined (pixel value (row im i) c n m) m) 4) (sym is)
        ∙ painted_same dst t _ _ 4 (λ i l. across_outputs (row im i) o.channels n m some (even i l))

    -- the outputs of the channels of a row's pixels
    pub length-pixel : (xs : List X) (c n m x : ℕ) → 0 < n → length xs ≡ n * c → length (pixel value xs c n m x) ≡ c
    length-pixel xs c n m x some long = length_outputs xs c n c m x some (omega (arith, packed n c some))

    pub length_pixels : (xs : List X) (c n m x : ℕ) → 0 < n → length xs ≡ n * c → length (joined (pixel value xs c n m) x) ≡ x * c
    length_pixels xs c n m x some long = length-joined_below _ c x (λ y l. length-pixel xs c n m y some long)

    pub line_shaped : (knows : ResamplingFunction → Bool) → Shaped (line_meaning knows value)
    line_shaped knows = record {
      column_length = λ f c n im h y d some even. length-columns n im h y some even;
      across_length = λ f c n xs w d some long. length_across c n xs w some long;
    }

module _ {X : Type 0} (m : Meaning X) (o : ConvolutionOptions) where
  -- row i of the rows from row y on, k of them
  pub row_value_part : (im : List (List X)) (y k i : ℕ) → i < k → row_value m o (take k (drop y im)) i ≡ row_value m o im (y + i)
  row_value_part im y k i l =
      ap (λ (xs : List X). m.across o.function o.channels xs o.dst_size.width o.bit_depth) (get_or-take k (drop y im) i [] l ∙ get_or-drop y im i [])

  -- the same in a buffer: row i of a part of it that begins with row y
  pub row_value_in_part : (xs : List X) (s y i a k : ℕ) → a ≡ y * s → i * s + source_row o ≤ k
      → m.across o.function o.channels (part (i * s) (source_row o) (part a k xs)) o.dst_size.width o.bit_depth
      ≡ m.across o.function o.channels (part ((y + i) * s) (source_row o) xs) o.dst_size.width o.bit_depth
  row_value_in_part xs s y i a k at fits =
      ap (λ (zs : List X). m.across o.function o.channels zs o.dst_size.width o.bit_depth)
      (part-part (i * s) (source_row o) a k xs fits ∙ ap (λ (p : ℕ). part p (source_row o) xs) (omega (arith, add-mul y i s)))
