-- The stages of every plan: their sizes, their links and their number. Assumes nothing.
use Rattle.std.proofs.Common.{◌≡◌, ℕ, zero, suc, ◌+◌, ◌*◌, ◌/◌, ◌<◌, ◌≤◌, min, true, cond, ◌&&◌, eqb, leb, List, [], ◌∷◌, length, Some, None, sym, refl, subst, inl, inr, arith, lit≤}
use Rattle.std.proofs.lemmas.Bool.{cases_Bool, cond_both, and_parts, eqb-true, leb-true}
use Rattle.image.specs.declared.image_size.ImageSize.{ImageSize}
use Rattle.sampler.specs.Functions.{is_nearest, twice_ratio}
use Rattle.sampler.specs.declared.sampler.ResamplingFunction.{ResamplingFunction}
use Rattle.convolution.specs.Meaning.{dimension_limit}
use Rattle.planner.specs.declared.scaler.Scaler.{Scaler}
use Rattle.planner.specs.declared.stage.Stage.{Stage}
use Rattle.planner.specs.Stages.{kind_of, stage_of, same_size, growing, enough, between, prefilter, prefiltered, stages_of, within as inside}
use Rattle.planner.specs.Chains.{Dimensions, Linked, climbed, least, stage_limit, Kept, WellSized, Each, Chain}
use Rattle.planner.proofs.Ratio.{three}
use Rattle.planner.proofs.Growth.{Below, after, below_after, short, left, nearer, climbs, same_is}

pub inside_is : (s t : ImageSize) → inside s t ≡ true → (s.width ≤ t.width) × (s.height ≤ t.height)
inside_is s t e =
    let p = and_parts (leb s.width t.width) (leb s.height t.height) e in
    (leb-true s.width t.width p.0, leb-true s.height t.height p.1)

pub below : (s t : ImageSize) → Dimensions s → inside s t ≡ true → Below s t
below s t d e =
    let p = inside_is s t e in
    record { some_width = omega arith; some_height = omega arith; most_width = p.0; most_height = p.1 }

-- The stages are one, those of an enlargement, or two.
pub by_ways : (P : List Stage → Type 0) (o : Scaler) (s t : ImageSize)
    → P (stage_of o.function s t ∷ [])
    → (inside s t ≡ true → P (growing (enough t) o.function s t))
    → ((p : ResamplingFunction) → P (stage_of p s (between s t) ∷ stage_of o.function (between s t) t ∷ []))
    → P (stages_of o s t)
unfolding stages_of
by_ways P o s t one many two =
    let f = o.function in
    let rest = stage_of f s t ∷ [] in
    let fewer = cond (o.supersampling && inside t s) (prefiltered (prefilter s t) f s t) rest in
    let up = o.multi_step_upscaling && inside s t in
    let sampled : P fewer =
    cond_both (o.supersampling && inside t s) (prefiltered (prefilter s t) f s t) rest P
    (λ h. elim (prefilter s t) as (λ q. P (prefiltered q f s t)) [ Some p ↦ two p | None ↦ one ]) (λ h. one) in
    cond_both (is_nearest f) rest (cond up (growing (enough t) f s t) fewer) P (λ e. one)
    (λ e. cond_both up (growing (enough t) f s t) fewer P (λ g. many (and_parts o.multi_step_upscaling (inside s t) g).1) (λ g. sampled))

-- links

pub links : (k : ℕ) (f : ResamplingFunction) (s t : ImageSize) → Below s t → left s t < k → Linked s t (growing k f s t)
unfolding growing
links zero f s t b p = absurd (omega arith)
links (suc k) f s t b p =
    elim (cases_Bool (same_size (after f s t) t)) [
      | inl e ↦ rw e (refl, same_is (after f s t) t e)
      | inr e ↦ let n = nearer f s t b e in rw e (refl, links k f (after f s t) t (below_after f s t b) (omega arith))
    ]

pub linked : (o : Scaler) (s t : ImageSize) → Dimensions s → Linked s t (stages_of o s t)
linked o s t d =
    by_ways (Linked s t) o s t (refl, refl)
    (λ e. let b = below s t d e in links (enough t) o.function s t b (omega (arith, b.some_width, b.most_width)))
    (λ p. (refl, (refl, refl)))

-- number

pub some_growing : (k : ℕ) (f : ResamplingFunction) (s t : ImageSize) → 1 ≤ k → 1 ≤ length (growing k f s t)
unfolding growing
some_growing zero f s t h = absurd (omega arith)
some_growing (suc k) f s t h = omega arith

pub some : (o : Scaler) (s t : ImageSize) → Dimensions s → 1 ≤ length (stages_of o s t)
some o s t d =
    by_ways (λ sts. 1 ≤ length sts) o s t (lit≤ tt)
    (λ e. let b = below s t d e in some_growing (enough t) o.function s t (omega (arith, b.some_width, b.most_width)))
    (λ p. lit≤ tt)

-- stages that the smallest ratio would need from g are enough
pub few_growing : (n k g : ℕ) (f : ResamplingFunction) (s t : ImageSize)
    → min t.width g ≤ s.width → min t.height g ≤ s.height
    → t.width ≤ climbed (suc n) g → t.height ≤ climbed (suc n) g
    → length (growing k f s t) ≤ suc n
unfolding growing climbed
few_growing n zero g f s t a b tw th = omega arith
few_growing zero (suc k) g f s t a b tw th =
    let p = climbs (twice_ratio f) t.width s.width g (three f) a in
    let q = climbs (twice_ratio f) t.height s.height g (three f) b in
    elim (cases_Bool (same_size (after f s t) t)) [
      | inl e ↦ rw e (lit≤ tt)
      | inr e ↦ elim (short f s t e) [ inl x ↦ absurd (omega arith) | inr x ↦ absurd (omega arith) ]
    ]
few_growing (suc n) (suc k) g f s t a b tw th =
    let p = climbs (twice_ratio f) t.width s.width g (three f) a in
    let q = climbs (twice_ratio f) t.height s.height g (three f) b in
    elim (cases_Bool (same_size (after f s t) t)) [
      | inl e ↦ rw e (omega arith)
      | inr e ↦ rw e (omega (arith, few_growing n k ((g * 3 + 1) / 2) f (after f s t) t p q tw th))
    ]

-- Whatever the limit on the dimensions: where k stages at the smallest ratio take 1 to it, no plan has more than k.
pub few_at : (limit k : ℕ) → limit ≤ least k → 2 ≤ k → (o : Scaler) (s t : ImageSize)
    → 1 ≤ s.width → 1 ≤ s.height → t.width ≤ limit → t.height ≤ limit → length (stages_of o s t) ≤ k
few_at limit zero l two o s t sw sh tw th = absurd (omega arith)
few_at limit (suc n) l two o s t sw sh tw th =
    by_ways (λ sts. length sts ≤ suc n) o s t (omega arith)
    (λ e. few_growing n (enough t) 1 o.function s t (omega arith) (omega arith) (omega arith) (omega arith))
    (λ p. omega arith)

pub reaches : dimension_limit ≤ least stage_limit
unfolding climbed
reaches = lit≤ tt

-- sizes

each_none : (P : Stage → Type 0) → Each P []
each_none P k d h = absurd (omega arith)

each_more : (P : Stage → Type 0) (x : Stage) (xs : List Stage) → P x → Each P xs → Each P (x ∷ xs)
each_more P x xs p ps zero d h = p
each_more P x xs p ps (suc k) d h = ps k d (omega arith)

-- what a stage leaves as it is
pub kept_of : (f : ResamplingFunction) (s t : ImageSize) → Kept (kind_of f s t) s t
kept_of f s t =
    elim (cases_Bool (is_nearest f)) [
      | inl e ↦ rw e tt
      | inr e ↦ elim (cases_Bool (eqb s.width t.width)) [
        | inl w ↦ elim (cases_Bool (eqb s.height t.height)) [
          | inl h ↦ rw (e, w, h) (eqb-true s.width t.width w, eqb-true s.height t.height h)
          | inr h ↦ rw (e, w, h) (eqb-true s.width t.width w)
        ]
        | inr w ↦ elim (cases_Bool (eqb s.height t.height)) [
          | inl h ↦ rw (e, w, h) (eqb-true s.height t.height h)
          | inr h ↦ rw (e, w, h) tt
        ]
      ]
    ]

pub stage_sized : (f : ResamplingFunction) (s t : ImageSize) → Dimensions s → Dimensions t → WellSized (stage_of f s t)
stage_sized f s t d e = record { source = d; target = e; kept = kept_of f s t }

pub growing_sized : (k : ℕ) (f : ResamplingFunction) (s t : ImageSize) → Below s t → Dimensions t → Each WellSized (growing k f s t)
unfolding growing
growing_sized zero f s t b d = each_none WellSized
growing_sized (suc k) f s t b d =
    let n = below_after f s t b in
    let a : Dimensions s = ((b.some_width, omega (arith, b.most_width)), (b.some_height, omega (arith, b.most_height))) in
    let m : Dimensions (after f s t) = ((n.some_width, omega (arith, n.most_width)), (n.some_height, omega (arith, n.most_height))) in
    let first = stage_sized f s (after f s t) a m in
    let st = stage_of f s (after f s t) in
    let rest = growing k f (after f s t) t in
    cond_both (same_size (after f s t) t) [] rest (λ sts. Each WellSized (st ∷ sts))
    (λ e. each_more WellSized st [] first (each_none WellSized))
    (λ e. each_more WellSized st rest first (growing_sized k f (after f s t) t n d))

pub well_sized : (o : Scaler) (s t : ImageSize) → Dimensions s → Dimensions t → Each WellSized (stages_of o s t)
well_sized o s t d e =
    let m : Dimensions (between s t) = ((omega arith, omega arith), (omega arith, omega arith)) in
    let f = o.function in
    by_ways (Each WellSized) o s t
    (each_more WellSized (stage_of f s t) [] (stage_sized f s t d e) (each_none WellSized))
    (λ i. growing_sized (enough t) f s t (below s t d i) e)
    (λ p.
    let later = each_more WellSized (stage_of f (between s t) t) [] (stage_sized f (between s t) t m e) (each_none WellSized) in
    each_more WellSized (stage_of p s (between s t)) (stage_of f (between s t) t ∷ []) (stage_sized p s (between s t) d m) later)

pub chain : (o : Scaler) (s t : ImageSize) → Dimensions s → Dimensions t → Chain s t (stages_of o s t)
chain o s t d e = record {
  some = some o s t d;
  few = few_at dimension_limit stage_limit reaches (lit≤ tt) o s t (omega arith) (omega arith) (omega arith) (omega arith);
  linked = linked o s t d;
  sized = well_sized o s t d e;
}

-- the same of a table that holds the stages
pub chain_at : (sts : List Stage) (o : Scaler) (s t : ImageSize) → sts ≡ stages_of o s t → Dimensions s → Dimensions t → Chain s t sts
chain_at sts o s t e d f = subst (Chain s t) (sym e) (chain o s t d f)
