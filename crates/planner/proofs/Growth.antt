-- One stage of enlarging: how far it goes, and that stages follow until both axes have the target. Assumes nothing.
use Rattle.std.proofs.Common.{◌≡◌, ℕ, zero, suc, ◌+◌, ◌-◌, ◌*◌, ◌/◌, ◌<◌, ◌≤◌, min, true, false, eqb, ◌⊎◌, [], ◌∷◌, refl, ap, ◌∙◌, inl, inr, mul-le-mul_left, arith}
use Rattle.std.proofs.lemmas.Bool.{cases_Bool, and_parts, and_cases, eqb-true, eqb-false}
use Rattle.image.specs.declared.image_size.ImageSize.{ImageSize}
use Rattle.sampler.specs.Functions.{twice_ratio}
use Rattle.sampler.specs.declared.sampler.ResamplingFunction.{ResamplingFunction}
use Rattle.planner.specs.Stages.{grown, grown_size, same_size, growing, enough, stage_of}
use Rattle.planner.proofs.Ratio.{three}

abbrev of_size : ℕ → ℕ → ImageSize
of_size w h = record { width = w; height = h }

pub same_is : (s t : ImageSize) → same_size s t ≡ true → s ≡ t
same_is s t e =
    let p = and_parts (eqb s.width t.width) (eqb s.height t.height) e in
    let w = eqb-true s.width t.width p.0 in
    let h = eqb-true s.height t.height p.1 in
    ap (λ w. of_size w s.height) w ∙ ap (of_size t.width) h

-- neither dimension is 0, and neither is above the target's
pub record Below (s t : ImageSize) : Type 0 where
  pub some_width : 1 ≤ s.width
  pub some_height : 1 ≤ s.height
  pub most_width : s.width ≤ t.width
  pub most_height : s.height ≤ t.height

pub keeps : (r t v : ℕ) → 3 ≤ r → v ≤ t → v ≤ grown r t v
keeps r t v h le = omega (arith, mul-le-mul_left v h)

-- an axis below its target rises
pub rises : (r t v : ℕ) → 3 ≤ r → 1 ≤ v → v < t → v < grown r t v
rises r t v h one lt = omega (arith, mul-le-mul_left v h)

-- at least as far as the smallest ratio takes it
pub climbs : (r t v g : ℕ) → 3 ≤ r → min t g ≤ v → min t ((g * 3 + 1) / 2) ≤ grown r t v
climbs r t v g h le = omega (arith, mul-le-mul_left v h)

module _ (f : ResamplingFunction) (s t : ImageSize) where
  -- the size after one stage
  abbrev pub after : ImageSize
  after = grown_size (twice_ratio f) t s

  pub below_after : Below s t → Below after t
  below_after b =
      let w = keeps (twice_ratio f) t.width s.width (three f) b.most_width in
      let h = keeps (twice_ratio f) t.height s.height (three f) b.most_height in
      record { some_width = omega (arith, b.some_width); some_height = omega (arith, b.some_height); most_width = omega arith; most_height = omega arith }

  -- a stage that does not arrive stays below the target on some axis
  pub short : same_size after t ≡ false → (after.width < t.width) ⊎ (after.height < t.height)
  short e =
      elim (and_cases (eqb after.width t.width) (eqb after.height t.height) e) [
        | inl a ↦ inl (omega (arith, eqb-false after.width t.width a))
        | inr a ↦ inr (omega (arith, eqb-false after.height t.height a))
      ]

-- how far a size is from its target
abbrev pub left : ImageSize → ImageSize → ℕ
left s t = (t.width - s.width) + (t.height - s.height)

pub nearer : (f : ResamplingFunction) (s t : ImageSize) → Below s t → same_size (after f s t) t ≡ false → left (after f s t) t < left s t
nearer f s t b e =
    let r = twice_ratio f in
    let three_r = three f in
    let a = keeps r t.width s.width three_r b.most_width in
    let h = keeps r t.height s.height three_r b.most_height in
    elim (short f s t e) [
      | inl x ↦ omega (arith, rises r t.width s.width three_r b.some_width (omega arith))
      | inr x ↦ omega (arith, rises r t.height s.height three_r b.some_height (omega arith))
    ]

-- what is more than the way left allows no further stage
pub fuel : (k m : ℕ) (f : ResamplingFunction) (s t : ImageSize) → Below s t → left s t < k → left s t < m → growing k f s t ≡ growing m f s t
unfolding growing
fuel zero m f s t b p q = absurd (omega arith)
fuel (suc k) zero f s t b p q = absurd (omega arith)
fuel (suc k) (suc m) f s t b p q =
    elim (cases_Bool (same_size (after f s t) t)) [
      | inl e ↦ rw e refl
      | inr e ↦ let n = nearer f s t b e in rw e (ap (λ xs. stage_of f s (after f s t) ∷ xs) (fuel k m f (after f s t) t (below_after f s t b) (omega arith) (omega arith)))
    ]

module _ (f : ResamplingFunction) (s t : ImageSize) (b : Below s t) where
  -- no stage is cut off
  pub unrolled : growing (enough t) f s t ≡ growing (suc (enough t)) f s t
  unrolled = fuel (enough t) (suc (enough t)) f s t b (omega (arith, b.some_width, b.most_width)) (omega arith)

  -- one stage, and the stages from where it ends
  pub goes_on : same_size (after f s t) t ≡ false → growing (enough t) f s t ≡ stage_of f s (after f s t) ∷ growing (enough t) f (after f s t) t
  unfolding growing
  goes_on e = unrolled ∙ (rw e refl)

  pub arrives : same_size (after f s t) t ≡ true → growing (enough t) f s t ≡ stage_of f s (after f s t) ∷ []
  unfolding growing
  arrives e = unrolled ∙ (rw e refl)
