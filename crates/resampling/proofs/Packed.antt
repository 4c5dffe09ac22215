-- Images without gaps: what a buffer shows after such an image was written into it.
use Rattle.std.proofs.Common.{◌≡◌, ℕ, suc, ◌-◌, ◌*◌, ◌^◌, ◌<◌, ◌≤◌, min, List, [], length, sym, ap, ◌∙◌, subst, mul-le-mul, mul_assoc, mul_comm, mul-suc, arith}
use Rattle.std.proofs.lemmas.List.{same_lists, get_or_default}
use Rattle.image.specs.Images.{image_of}
use Rattle.image.specs.Rows.{part, row, rows, painted, RowsFit}
use Rattle.image.specs.declared.image_size.ImageSize.{ImageSize}
use Rattle.image.specs.declared.source_rows.SourceRows.{SourceRows}
use Rattle.image.proofs.Strides.{row_fits}
use Rattle.image.proofs.RowsOf.{length-rows, row-rows, rows_even}
use Rattle.image.proofs.Painted.{row-painted}
use Rattle.convolution.specs.Meaning.{Meaning, Shaped}
use Rattle.planner.specs.Chains.{Dimensions, WellSized}
use Rattle.planner.specs.Plans.{area}
use Rattle.planner.specs.declared.stage.Stage.{Stage}
use Rattle.values.specs.Values.{stage_value}
use Rattle.values.proofs.Shapes.{SomeSize, Sized, stage_sized}
use Rattle.resampling.specs.Running.{RowsOf, packed}

-- an image that is resized has fewer elements than the largest number
pub exact_area : (c : ℕ) (s : ImageSize) (n : ℕ) → Dimensions s → c ≤ 4 → n ≡ min (area c s) (2 ^ 64 - 1) → n ≡ area c s
exact_area c s n z few e =
    let le : s.width * s.height ≤ 65535 * 65535 = mul-le-mul z.0.1 z.1.1 in
    let all : s.width * s.height * c ≤ 65535 * 65535 * 4 = mul-le-mul le few in
    omega arith

-- rows without gaps fit where their product does
pub gapless : (n h len : ℕ) → 0 < h → h * n ≤ len → RowsFit n n h len
gapless n h len some fits =
    let e : h ≡ suc (h - 1) = omega arith in
    record { apart = omega arith; within = omega (arith, mul-suc n (h - 1), ap (λ k. n * k) e, mul_comm n h) }

pub packed_fits : (c : ℕ) (s : ImageSize) (len : ℕ) → 0 < s.height → area c s ≤ len → RowsFit (s.width * c) (s.width * c) s.height len
packed_fits c s len some fits =
    gapless (s.width * c) s.height len some (omega (arith, mul_assoc s.width s.height c, mul_comm s.height c, mul_assoc s.width c s.height, mul_comm (s.width * c) s.height))

module _ {X : Type 0} where
  -- the rows of a buffer, and rows that are lent
  pub rows_sized : (xs : List X) (n s h : ℕ) → RowsFit n s h (length xs) → Sized n h (rows xs n s h)
  rows_sized xs n s h f = record { tall = length-rows xs n s h; even = λ y l. rows_even xs n s h f.within y (omega (arith, length-rows xs n s h)) }

  pub source_sized : (r : SourceRows X) (n h : ℕ) → r.row_length ≡ n → r.height ≡ h → Sized n h (image_of r)
  source_sized r n h e f =
      subst (λ (a : ℕ). Sized a h (image_of r)) e
      (subst (λ (a : ℕ). Sized r.row_length a (image_of r)) f (rows_sized r.elements.now r.row_length r.stride r.height r.fit))

  pub packed_painted : (xs : List X) (n h : ℕ) (im : List (List X)) → Sized n h im → RowsFit n n h (length xs) → rows (painted xs n (row im) h) n n h ≡ im
  packed_painted xs n h im z f =
      let there : (y : ℕ) → y < h → part (y * n) n (painted xs n (row im) h) ≡ row im y =
      λ y l.
      ap (λ k. part (y * n) k (painted xs n (row im) h)) (sym (z.even y l))
      ∙ row-painted xs n (row im) h (λ v m. omega (arith, z.even v m, row_fits v h n n (length xs) m f.within)) (λ v m. omega (arith, z.even v m)) y l in
      same_lists _ _ (length-rows _ n n h ∙ sym z.tall)
      (λ y d b.
      let l : y < h = omega (arith, length-rows (painted xs n (row im) h) n n h) in
      get_or_default _ y d [] b ∙ (row-rows _ n n h y l ∙ (there y l ∙ get_or_default im y [] d (omega (arith, z.tall)))))

module _ {E : Type 0} (m : Meaning E) (c depth : ℕ) (shaped : Shaped m) where
  -- a stage's value that was painted without gaps is what the buffer shows
  pub stage_packed : (st : Stage) (r : SourceRows E) (xs zs : List E) → WellSized st → RowsOf c st.source r → area c st.target ≤ length xs
      → zs ≡ painted xs (st.target.width * c) (row (stage_value m c depth st (image_of r))) st.target.height → packed c st.target zs ≡ stage_value m c depth st (image_of r)
  stage_packed st r xs zs w o fits is =
      let some : SomeSize st.source = record { width = w.source.0.0; height = w.source.1.0 } in
      let v = stage_sized m c depth shaped st (image_of r) w.kept some (source_sized r (st.source.width * c) st.source.height o.width o.height) in
      ap (packed c st.target) is ∙ packed_painted xs (st.target.width * c) st.target.height _ v (packed_fits c st.target (length xs) w.target.1.0 fits)
