-- Which stages ask for a function that is not known: of an enlargement, the first tells for all. Assumes nothing.
use Rattle.std.proofs.Common.{◌≡◌, ℕ, zero, suc, Bool, true, false, not, ◌||◌, eqb, ◌⊎◌, List, [], sym, refl, ap, ◌∙◌, take, ◌∷◌, inl, inr, arith}
use Rattle.std.proofs.lemmas.Bool.{cases_Bool, cond_both, and_right, not_from_true, or_from, both_ways, and_from}
use Rattle.image.specs.declared.image_size.ImageSize.{ImageSize}
use Rattle.sampler.specs.Functions.{is_nearest, twice_ratio}
use Rattle.sampler.specs.declared.sampler.ResamplingFunction.{ResamplingFunction}
use Rattle.planner.specs.declared.stage.Stage.{Stage}
use Rattle.planner.specs.declared.scaler.Scaler.{Scaler}
use Rattle.planner.specs.Chains.{Dimensions}
use Rattle.planner.specs.Stages.{stage_of, kind_of, same_size, growing, enough, grown_size, stages_of}
use Rattle.planner.specs.Plans.{needs_kernel, asks_unknown, some_unknown}
use Rattle.planner.proofs.Growth.{Below, after, left, nearer, same_is, goes_on, arrives}
use Rattle.planner.proofs.Sized.{below, by_ways}

or_false : (b : Bool) → (b || false) ≡ b
or_false true = refl
or_false false = refl

module _ (knows : ResamplingFunction → Bool) (f : ResamplingFunction) where
  -- a stage that does not ask: by nearest, by a function that is known, or between equal sizes
  asks_not : (s t : ImageSize) → asks_unknown knows (stage_of f s t) ≡ false → (is_nearest f ≡ true) ⊎ ((knows f ≡ true) ⊎ (same_size s t ≡ true))
  asks_not s t h =
      elim (cases_Bool (is_nearest f)) [
        | inl e ↦ inl e
        | inr e ↦ elim (cases_Bool (knows f)) [
          | inl k ↦ inr (inl k)
          | inr k ↦ elim (cases_Bool (eqb s.width t.width)) [
            | inl v ↦ elim (cases_Bool (eqb s.height t.height)) [
              | inl w ↦ inr (inr (and_from (eqb s.width t.width) (eqb s.height t.height) v w))
              | inr w ↦ absurd (both_ways (asks_unknown knows (stage_of f s t)) h (rw (e, v, w, k) refl))
            ]
            | inr v ↦ elim (cases_Bool (eqb s.height t.height)) [
              | inl w ↦ absurd (both_ways (asks_unknown knows (stage_of f s t)) h (rw (e, v, w, k) refl))
              | inr w ↦ absurd (both_ways (asks_unknown knows (stage_of f s t)) h (rw (e, v, w, k) refl))
            ]
          ]
        ]
      ]

  by_nearest : is_nearest f ≡ true → (s t : ImageSize) → asks_unknown knows (stage_of f s t) ≡ false
  by_nearest e s t = rw e refl

  by_known : knows f ≡ true → (s t : ImageSize) → asks_unknown knows (stage_of f s t) ≡ false
  by_known e s t = and_right (needs_kernel (kind_of f s t)) (not (knows f)) (not_from_true (knows f) e)

  none_growing : ((s t : ImageSize) → asks_unknown knows (stage_of f s t) ≡ false) → (k : ℕ) (s t : ImageSize) → some_unknown knows (growing k f s t) ≡ false
  unfolding growing
  none_growing h zero s t = refl
  none_growing h (suc k) s t =
      let st = stage_of f s (after f s t) in
      let rest = growing k f (after f s t) t in
      or_from (asks_unknown knows st) _ (h s (after f s t))
      (cond_both (same_size (after f s t) t) [] rest (λ sts. some_unknown knows sts ≡ false) (λ e. refl) (λ e. none_growing h k (after f s t) t))

  -- a stage between equal sizes arrives
  at_once : (s t : ImageSize) → Below s t → same_size s (after f s t) ≡ true → same_size (after f s t) t ≡ false → ⊥
  at_once s t b e h =
      let n = nearer f s t b h in
      let w : left s t ≡ left (after f s t) t = ap (λ (x : ImageSize). left x t) (same_is s (after f s t) e) in
      omega (arith, n, w)

  later : (s t : ImageSize) → Below s t → same_size (after f s t) t ≡ false
      → (asks_unknown knows (stage_of f s (after f s t)) || some_unknown knows (growing (enough t) f (after f s t) t)) ≡ asks_unknown knows (stage_of f s (after f s t))
  later s t b e =
      let st = stage_of f s (after f s t) in
      let rest = some_unknown knows (growing (enough t) f (after f s t) t) in
      elim (cases_Bool (asks_unknown knows st)) [
        | inl h ↦ ap (λ (x : Bool). x || rest) h ∙ sym h
        | inr h ↦ elim (asks_not s (after f s t) h) [
          | inl n ↦ or_from (asks_unknown knows st) rest h (none_growing (by_nearest n) (enough t) (after f s t) t) ∙ sym h
          | inr o ↦ elim o [
            | inl k ↦ or_from (asks_unknown knows st) rest h (none_growing (by_known k) (enough t) (after f s t) t) ∙ sym h
            | inr q ↦ absurd (at_once s t b q e)
          ]
        ]
      ]

  pub first_tells : (s t : ImageSize) → Below s t → some_unknown knows (growing (enough t) f s t) ≡ asks_unknown knows (stage_of f s (after f s t))
  first_tells s t b =
      elim (cases_Bool (same_size (after f s t) t)) [
        | inl e ↦ ap (some_unknown knows) (arrives f s t b e) ∙ or_false (asks_unknown knows (stage_of f s (after f s t)))
        | inr e ↦ ap (some_unknown knows) (goes_on f s t b e) ∙ later s t b e
      ]

  -- the same, as the planner finds the first stage: n is where it ends
  pub first_asked : (s t n : ImageSize) (r : ℕ) (st : Stage) (sts : List Stage) (b : Bool) → Below s t → n ≡ grown_size r t s → r ≡ twice_ratio f
      → st ≡ stage_of f s n → sts ≡ growing (enough t) f s t → b ≡ asks_unknown knows st → b ≡ some_unknown knows sts
  first_asked s t n r st sts b below by ratio is all h =
      let at : n ≡ after f s t = by ∙ ap (λ (q : ℕ). grown_size q t s) ratio in
      h ∙ ap (asks_unknown knows) (is ∙ ap (stage_of f s) at) ∙ sym (first_tells s t below) ∙ ap (some_unknown knows) (sym all)

  -- where the first of some stages tells for all, so do the first two
  two_of : (x : Stage) (xs : List Stage) → some_unknown knows (x ∷ xs) ≡ asks_unknown knows x → some_unknown knows (take 2 (x ∷ xs)) ≡ some_unknown knows (x ∷ xs)
  two_of x [] e = refl
  two_of x (y ∷ ys) e =
      elim (cases_Bool (asks_unknown knows x)) [
        | inl h ↦ rw h refl
        | inr h ↦ elim (cases_Bool (asks_unknown knows y)) [
          | inl k ↦ rw (h, k) refl
          | inr k ↦ rw (h, k) (sym (rw (h, k) at e))
        ]
      ]

  two_growing : (s t : ImageSize) → Below s t → some_unknown knows (take 2 (growing (enough t) f s t)) ≡ some_unknown knows (growing (enough t) f s t)
  two_growing s t b =
      let told = first_tells s t b in
      elim (cases_Bool (same_size (after f s t) t)) [
        | inl e ↦ rw (arrives f s t b e) refl
        | inr e ↦ rw (goes_on f s t b e) (two_of (stage_of f s (after f s t)) (growing (enough t) f (after f s t) t) (rw (goes_on f s t b e) at told))
      ]

-- Of all stages of a plan the first two tell: there are no more but in an enlargement.
pub two_tell : (knows : ResamplingFunction → Bool) (o : Scaler) (s t : ImageSize) → Dimensions s → some_unknown knows (take 2 (stages_of o s t)) ≡ some_unknown knows (stages_of o s t)
two_tell knows o s t d =
    by_ways (λ sts. some_unknown knows (take 2 sts) ≡ some_unknown knows sts) o s t refl
    (λ e. two_growing knows o.function s t (below s t d e)) (λ p. refl)
