-- A plan between equal sizes leaves an image as it is.
use Rattle.std.proofs.Common.{◌≡◌, ℕ, zero, suc, ◌+◌, ◌*◌, ◌/◌, ◌^◌, ◌<◌, true, eqb, List, [], ◌∷◌, ◌++◌, length, take, sym, refl, ap, ◌∙◌, subst, ap₂, suc-mul, mul-le-mul_left, zero-mul, arith, lit<, take_all, take-add}
use native.Mathlib.Nat.{mul-div_cancel_left}
use lib.Arith.{digits_div}
use Rattle.std.proofs.lemmas.List.{same_lists, get_or_default}
use Rattle.std.proofs.lemmas.Bool.{cond_both, cond-true, eq-eqb, and_from}
use Rattle.image.specs.Rows.{part, row, listed, joined}
use Rattle.image.specs.declared.image_size.ImageSize.{ImageSize}
use Rattle.image.proofs.RowsOf.{length-listed, row_listed}
use Rattle.sampler.specs.declared.sampler.ResamplingFunction.{ResamplingFunction}
use Rattle.sampler.specs.Functions.{is_nearest, twice_ratio}
use Rattle.convolution.specs.Meaning.{Meaning}
use Rattle.planner.specs.declared.scaler.Scaler.{Scaler}
use Rattle.planner.specs.declared.stage.Stage.{Stage}
use Rattle.planner.specs.declared.stage.StageKind.{StageKind}
use Rattle.planner.specs.Stages.{stage_of, same_size, growing, grown, enough, between, stages_of}
use Rattle.planner.proofs.Growth.{after, same_is}
use Rattle.planner.proofs.Ratio.{three}
use Rattle.planner.proofs.Sized.{by_ways}
use Rattle.values.specs.Nearest.{scale, nearest, nearest_row, nearest_image}
use Rattle.values.specs.Values.{value_by, stage_value, composed}
use Rattle.values.proofs.Shapes.{SomeSize, Sized}

nearest_same : (n x : ℕ) → 0 < n → nearest n n x ≡ x
unfolding nearest
nearest_same n x p =
    let e : scale n n ≡ 2 ^ 32 = mul-div_cancel_left (2 ^ 32) p in
    ap (λ (k : ℕ). (x * k + k / 2) / 2 ^ 32) e ∙ digits_div x (lit< tt)

module _ {E : Type 0} where
  pub listed_same : (v w : ℕ → List E) (h : ℕ) → ((y : ℕ) → y < h → v y ≡ w y) → listed v h ≡ listed w h
  listed_same v w h e =
      same_lists (listed v h) (listed w h) (length-listed v h ∙ sym (length-listed w h))
      (λ y d b.
      let l : y < h = omega (arith, length-listed v h) in
      get_or_default (listed v h) y d [] b
      ∙ (row_listed v h y l ∙ (e y l ∙ (sym (row_listed w h y l) ∙ get_or_default (listed w h) y [] d (omega (arith, length-listed w h))))))

  -- an image is the list of its rows
  pub listed-rows : (im : List (List E)) (h : ℕ) → length im ≡ h → listed (row im) h ≡ im
  listed-rows im h e =
      same_lists (listed (row im) h) im (length-listed (row im) h ∙ sym e)
      (λ y d b.
      let l : y < h = omega (arith, length-listed (row im) h) in
      get_or_default (listed (row im) h) y d [] b ∙ (row_listed (row im) h y l ∙ get_or_default im y [] d (omega arith)))

  -- the parts of a list, one after the other
  joined_parts : (v : ℕ → List E) (c n : ℕ) (xs : List E) → ((x : ℕ) → x < n → v x ≡ part (x * c) c xs) → joined v n ≡ take (n * c) xs
  unfolding joined
  joined_parts v c zero xs e = ap (λ (k : ℕ). take k xs) (sym (zero-mul c))
  joined_parts v c (suc n) xs e =
      ap₂ (λ a b. a ++ b) (joined_parts v c n xs (λ x l. e x (omega arith))) (e n (omega arith))
      ∙ (sym (take-add (n * c) c xs) ∙ ap (λ (k : ℕ). take k xs) (sym (suc-mul n c)))

  row_copied : (c n : ℕ) (xs : List E) → 0 < n → length xs ≡ n * c → nearest_row c n n xs ≡ xs
  row_copied c n xs p e =
      joined_parts _ c n xs (λ x l. ap (λ (k : ℕ). part (k * c) c xs) (nearest_same n x p)) ∙ take_all (n * c) xs (omega arith)

  image_copied : (c : ℕ) (s : ImageSize) (im : List (List E)) → SomeSize s → Sized (s.width * c) s.height im → nearest_image c s s im ≡ im
  image_copied c s im p z =
      listed_same _ (row im) s.height
      (λ y l. ap (λ (k : ℕ). nearest_row c s.width s.width (row im k)) (nearest_same s.height y p.height) ∙ row_copied c s.width (row im y) p.width (z.even y l))
      ∙ listed-rows im s.height z.tall

  module _ (m : Meaning E) (c depth : ℕ) (s : ImageSize) (im : List (List E)) (p : SomeSize s) (z : Sized (s.width * c) s.height im) where
    stage_copied : (f : ResamplingFunction) (t : ImageSize) → s ≡ t → stage_value m c depth (stage_of f s t) im ≡ im
    stage_copied f t e =
        subst (λ (u : ImageSize). stage_value m c depth (stage_of f s u) im ≡ im) e
        (cond_both (is_nearest f) _ _ (λ (k : StageKind). value_by m c depth k (stage_of f s s) im ≡ im) (λ g. image_copied c s im p z)
        (λ g. let w = eq-eqb s.width s.width refl in let h = eq-eqb s.height s.height refl in rw (w, h)))

    grows_none : (f : ResamplingFunction) → s ≡ after f s s
    grows_none f =
        let r = twice_ratio f in
        let w : s.width ≡ grown r s.width s.width = omega (arith, mul-le-mul_left s.width (three f)) in
        let h : s.height ≡ grown r s.height s.height = omega (arith, mul-le-mul_left s.height (three f)) in
        λ i. record { width = w i; height = h i }

    between_none : s ≡ between s s
    between_none =
        let w : s.width ≡ (between s s).width = omega arith in
        let h : s.height ≡ (between s s).height = omega arith in
        λ i. record { width = w i; height = h i }

    growing_copied : (k : ℕ) (f : ResamplingFunction) → composed m c depth (growing k f s s) im ≡ im
    unfolding growing
    growing_copied zero f = refl
    growing_copied (suc k) f =
        let e = grows_none f in
        let same : same_size (after f s s) s ≡ true = and_from (eqb (after f s s).width s.width) (eqb (after f s s).height s.height) (eq-eqb _ _ (ap (λ (u : ImageSize). u.width) (sym e))) (eq-eqb _ _ (ap (λ (u : ImageSize). u.height) (sym e))) in
        ap (λ (sts : List Stage). composed m c depth sts (stage_value m c depth (stage_of f s (after f s s)) im)) (cond-true _ _ _ same)
        ∙ stage_copied f (after f s s) e

    plan_same : (o : Scaler) → composed m c depth (stages_of o s s) im ≡ im
    plan_same o =
        by_ways (λ (sts : List Stage). composed m c depth sts im ≡ im) o s s
        (stage_copied o.function s refl)
        (λ i. growing_copied (enough s) o.function)
        (λ g. subst (λ (u : ImageSize). composed m c depth (stage_of g s u ∷ stage_of o.function u s ∷ []) im ≡ im) between_none
        (ap (stage_value m c depth (stage_of o.function s s)) (stage_copied g s refl) ∙ stage_copied o.function s refl))

    pub plan_copied : (o : Scaler) (t : ImageSize) → same_size s t ≡ true → composed m c depth (stages_of o s t) im ≡ im
    plan_copied o t e = subst (λ (u : ImageSize). composed m c depth (stages_of o s u) im ≡ im) (same_is s t e) (plan_same o)
