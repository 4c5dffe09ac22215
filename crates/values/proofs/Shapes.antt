-- A stage's value has the rows and the row length of its target.
use Rattle.std.proofs.Common.{◌≡◌, ℕ, zero, suc, ◌+◌, ◌*◌, ◌<◌, ◌≤◌, List, length, sym, ap, ◌∙◌, mul-le-mul_right, suc-mul, zero-mul, arith, length-append, rules}
use Rattle.std.proofs.lemmas.List.{places}
use Rattle.image.specs.Rows.{part, row, listed, joined}
use Rattle.image.specs.declared.image_size.ImageSize.{ImageSize}
use Rattle.image.proofs.RowsOf.{length-listed, row_listed}
use Rattle.convolution.specs.Meaning.{Meaning, Shaped}
use Rattle.planner.specs.declared.stage.Stage.{Stage}
use Rattle.planner.specs.declared.stage.StageKind.{StageKind}
use Rattle.planner.specs.declared.stage.StageKind.TheVariants.{Copied, Sampled, Vertical, Horizontal, Both}
use Rattle.planner.specs.Chains.{Kept}
use Rattle.values.specs.Nearest.{nearest, nearest_row, nearest_image}
use Rattle.values.specs.Values.{vertical, horizontal, value_by, stage_value}
use Rattle.values.proofs.Within.{nearest_below}

-- neither dimension is 0
pub record SomeSize (s : ImageSize) : Type 0 where
  pub width : 0 < s.width
  pub height : 0 < s.height

module _ {E : Type 0} where
  -- an image of h rows of n elements each
  pub record Sized (n h : ℕ) (im : List (List E)) : Type 0 where
    pub tall : length im ≡ h
    pub even : (y : ℕ) → y < h → length (row im y) ≡ n

  pub listed_sized : (v : ℕ → List E) (n h : ℕ) → ((y : ℕ) → y < h → length (v y) ≡ n) → Sized n h (listed v h)
  listed_sized v n h e = record { tall = length-listed v h; even = λ y l. ap length (row_listed v h y l) ∙ e y l }

  pub length_parts : (v : ℕ → List E) (s h : ℕ) → ((y : ℕ) → y < h → length (v y) ≡ s) → length (joined v h) ≡ h * s
  unfolding joined
  length_parts v s zero e = sym (zero-mul s)
  length_parts v s (suc h) e = length-append (joined v h) (v h) ∙ omega (arith, length_parts v s h (λ y l. e y (omega arith)), e h (omega arith), suc-mul h s)

  part_length : (k c : ℕ) (xs : List E) → k + c ≤ length xs → length (part k c xs) ≡ c
  part_length k c xs h = search (rules, places)

  nearest_row_length : (c n m : ℕ) (xs : List E) → 0 < n → length xs ≡ n * c → length (nearest_row c n m xs) ≡ m * c
  nearest_row_length c n m xs p e =
      length_parts _ c m
      (λ x l. part_length (nearest n m x * c) c xs (omega (arith, mul-le-mul_right c (nearest_below n m x l p), suc-mul (nearest n m x) c)))

  nearest_sized : (c : ℕ) (s t : ImageSize) (im : List (List E)) → SomeSize s → Sized (s.width * c) s.height im → Sized (t.width * c) t.height (nearest_image c s t im)
  nearest_sized c s t im p z =
      listed_sized _ _ _ (λ y l. nearest_row_length c s.width t.width _ p.width (z.even _ (nearest_below s.height t.height y l p.height)))

  module _ (m : Meaning E) (c depth : ℕ) (shaped : Shaped m) where
    vertical_sized : (st : Stage) (im : List (List E)) (n h : ℕ) → 0 < h → Sized n h im → Sized n st.target.height (vertical m c depth st im)
    vertical_sized st im n h p z =
        listed_sized _ _ _ (λ y l. shaped.column_length st.function c n im st.target.height y depth (omega (arith, z.tall)) (λ k b. z.even k (omega (arith, z.tall))))

    horizontal_sized : (st : Stage) (im : List (List E)) (n : ℕ) → 0 < n → Sized (n * c) st.target.height im → Sized (st.target.width * c) st.target.height (horizontal m c depth st im)
    horizontal_sized st im n p z =
        listed_sized _ _ _ (λ y l. shaped.across_length st.function c n (row im y) st.target.width depth p (z.even y l))

    value_sized : (k : StageKind) (st : Stage) (im : List (List E)) → Kept k st.source st.target → SomeSize st.source → Sized (st.source.width * c) st.source.height im → Sized (st.target.width * c) st.target.height (value_by m c depth k st im)
    value_sized Copied st im e p z = rw (← e.0, ← e.1) z
    value_sized Sampled st im e p z = nearest_sized c st.source st.target im p z
    value_sized Vertical st im e p z = rw (← e) (vertical_sized st im _ _ p.height z)
    value_sized Horizontal st im e p z = horizontal_sized st im _ p.width (rw (← e) z)
    value_sized Both st im e p z = horizontal_sized st _ _ p.width (vertical_sized st im _ _ p.height z)

    pub stage_sized : (st : Stage) (im : List (List E)) → Kept st.kind st.source st.target → SomeSize st.source → Sized (st.source.width * c) st.source.height im → Sized (st.target.width * c) st.target.height (stage_value m c depth st im)
    stage_sized st im e p z = value_sized st.kind st im e p z
