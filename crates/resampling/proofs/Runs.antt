-- The rows that a family's runs write are those of the stage's image.
use Rattle.std.proofs.Common.{◌≡◌, ℕ, ◌*◌, ◌<◌, ◌≤◌, List, length, sym, ap, ◌∙◌, mul_assoc, mul_comm, arith}
use Rattle.image.specs.Rows.{rows, listed, painted, RowsFit}
use Rattle.image.proofs.RowsOf.{row_listed, painted_same, painted-listed}
use Rattle.convolution.specs.Meaning.{Meaning, Shaped, source_row, target_row, column_value, row_value}
use Rattle.convolution.specs.declared.convolution.ConvolutionOptions.{ConvolutionOptions}
use Rattle.planner.specs.declared.stage.StageKind.TheVariants.{Vertical, Horizontal, Both}
use Rattle.values.proofs.Shapes.{Sized, listed_sized}
use Rattle.resampling.specs.Runs.{stage_painted, both_row}
use Rattle.resampling.proofs.Packed.{packed_painted}

-- the work buffer of route Whole has room for the vertical image
pub whole_room : (w h c len : ℕ) → w * h * c ≤ len → h * (w * c) ≤ len
whole_room w h c len fits = omega (arith, ap (λ (z : ℕ). z * c) (mul_comm w h), mul_assoc h w c)

module _ {E : Type 0} (m : Meaning E) (o : ConvolutionOptions) (im : List (List E)) where
  pub vertical_run : (dst : List E) (t : ℕ) → painted dst t (column_value m o im) o.dst_size.height ≡ stage_painted m o im Vertical dst t
  vertical_run dst t = painted-listed dst t (column_value m o im) o.dst_size.height

  pub horizontal_run : (dst : List E) (t h : ℕ) → h ≡ o.dst_size.height → painted dst t (row_value m o im) h ≡ stage_painted m o im Horizontal dst t
  horizontal_run dst t h e = ap (painted dst t (row_value m o im)) e ∙ painted-listed dst t (row_value m o im) o.dst_size.height

  -- the row values of column values
  across_tall : (to : ℕ → ℕ) (h i : ℕ) → i < h → row_value m o (listed (λ k. column_value m o im (to k)) h) i ≡ both_row m o im (to i)
  across_tall to h i l = ap (λ xs. m.across o.function o.channels xs o.dst_size.width o.bit_depth) (row_listed (λ k. column_value m o im (to k)) h i l)

  -- the rows of a stage on both axes
  pub both_run : (dst : List E) (t : ℕ) → painted dst t (both_row m o im) o.dst_size.height ≡ stage_painted m o im Both dst t
  both_run dst t =
      let h = o.dst_size.height in
      let tall = listed (column_value m o im) h in
      painted_same dst t (both_row m o im) (row_value m o tall) h (λ y l. sym (across_tall (λ k. k) h y l))
      ∙ painted-listed dst t (row_value m o tall) h

  module _ (shaped : Shaped m) (some : 0 < o.src_size.height) (even : Sized (source_row o) o.src_size.height im) where
    -- every column value is a row of the source's width
    pub column_even : (y : ℕ) → length (column_value m o im y) ≡ source_row o
    column_even y =
        shaped.column_length o.function o.channels (source_row o) im o.dst_size.height y o.bit_depth (omega (arith, even.tall)) (λ k l. even.even k (omega (arith, even.tall)))

    -- and every row of a stage on both axes is one of the target's
    pub both_even : 0 < o.src_size.width → (y : ℕ) → length (both_row m o im y) ≡ target_row o
    both_even wide y = shaped.across_length o.function o.channels o.src_size.width (column_value m o im y) o.dst_size.width o.bit_depth wide (column_even y)

    -- Column values that were painted without gaps, those of the rows to 0, to 1 .., and the row values of them.
    pub across_packed : (to : ℕ → ℕ) (xs zs dst : List E) (t h : ℕ) → zs ≡ painted xs (source_row o) (λ i. column_value m o im (to i)) h → RowsFit (source_row o) (source_row o) h (length xs)
        → painted dst t (row_value m o (rows zs (source_row o) (source_row o) h)) h ≡ painted dst t (λ i. both_row m o im (to i)) h
    across_packed to xs zs dst t h is f =
        let n = source_row o in
        let v : ℕ → List E = λ i. column_value m o im (to i) in
        let held : rows zs n n h ≡ listed v h =
        ap (λ ys. rows ys n n h) (is ∙ painted-listed xs n v h) ∙ packed_painted xs n h (listed v h) (listed_sized v n h (λ y l. column_even (to y))) f in
        ap (λ tall. painted dst t (row_value m o tall) h) held ∙ painted_same dst t (row_value m o (listed v h)) (λ i. both_row m o im (to i)) h (λ i l. across_tall to h i l)
