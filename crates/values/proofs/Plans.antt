-- The stages defined for two sizes lead from the one to the other, so a plan's value has the target's shape.
use Rattle.std.proofs.Common.{◌≡◌, ℕ, zero, suc, ◌*◌, ◌<◌, cond, List, [], ◌∷◌, sym, refl, subst, inl, inr, arith}
use Rattle.std.proofs.lemmas.Bool.{cases_Bool}
use Rattle.image.specs.declared.image_size.ImageSize.{ImageSize}
use Rattle.sampler.specs.declared.sampler.ResamplingFunction.{ResamplingFunction}
use Rattle.convolution.specs.Meaning.{Meaning, Shaped}
use Rattle.planner.specs.declared.scaler.Scaler.{Scaler}
use Rattle.planner.specs.declared.stage.Stage.{Stage}
use Rattle.planner.specs.Chains.{Kept}
use Rattle.planner.specs.Stages.{stage_of, same_size, growing, enough, between, stages_of}
use Rattle.planner.proofs.Growth.{Below, after, below_after, left, nearer, same_is}
use Rattle.planner.proofs.Sized.{by_ways, inside_is, kept_of}
use Rattle.values.specs.Values.{stage_value, composed}
use Rattle.values.proofs.Shapes.{SomeSize, Sized, stage_sized}

-- Each stage begins where the one before ended, the first at s; the last ends at t; none has a dimension of 0.
abbrev pub Joined : ImageSize → ImageSize → List Stage → Type 0
Joined s t [] = s ≡ t
Joined s t (st ∷ sts) = (st.source ≡ s) × SomeSize st.target × Kept st.kind st.source st.target × Joined st.target t sts

module _ {E : Type 0} (m : Meaning E) (c depth : ℕ) (shaped : Shaped m) where
  pub composed_sized : (sts : List Stage) (s t : ImageSize) (im : List (List E)) → Joined s t sts → SomeSize s → Sized (s.width * c) s.height im → Sized (t.width * c) t.height (composed m c depth sts im)
  composed_sized [] s t im j p z = subst (λ (u : ImageSize). Sized (u.width * c) u.height im) j z
  composed_sized (st ∷ sts) s t im j p z =
      let p' : SomeSize st.source = subst SomeSize (sym j.0) p in
      let z' = subst (λ (u : ImageSize). Sized (u.width * c) u.height im) (sym j.0) z in
      composed_sized sts st.target t (stage_value m c depth st im) j.3 j.1 (stage_sized m c depth shaped st im j.2 p' z')

single : (f : ResamplingFunction) (s t : ImageSize) → SomeSize t → Joined s t (stage_of f s t ∷ [])
single f s t p = (refl, p, kept_of f s t, refl)

grown : (k : ℕ) (f : ResamplingFunction) (s t : ImageSize) → Below s t → left s t < k → Joined s t (growing k f s t)
unfolding growing
grown zero f s t b l = absurd (omega arith)
grown (suc k) f s t b l =
    let u = after f s t in
    let b' = below_after f s t b in
    let rest : Joined u t (cond (same_size u t) [] (growing k f u t)) =
    elim (cases_Bool (same_size u t)) [
      | inl e ↦ rw e (same_is u t e)
      | inr e ↦ rw e (grown k f u t b' (omega (arith, nearer f s t b e)))
    ] in
    (refl, record { width = b'.some_width; height = b'.some_height }, kept_of f s u, rest)

between_some : (s t : ImageSize) → SomeSize s → SomeSize t → SomeSize (between s t)
between_some s t p q = record { width = omega (arith, p.width, q.width); height = omega (arith, p.height, q.height) }

pub stages_joined : (o : Scaler) (s t : ImageSize) → SomeSize s → SomeSize t → Joined s t (stages_of o s t)
stages_joined o s t p q =
    by_ways (Joined s t) o s t
    (single o.function s t q)
    (λ e.
    let i = inside_is s t e in
    let b : Below s t = record { some_width = p.width; some_height = p.height; most_width = i.0; most_height = i.1 } in
    grown (enough t) o.function s t b (omega (arith, p.width, b.most_width)))
    (λ g. (refl, between_some s t p q, kept_of g s (between s t), single o.function (between s t) t q))

-- a plan's value has the target's shape
pub plan_sized : {E : Type 0} (m : Meaning E) (c depth : ℕ) → Shaped m → (o : Scaler) (s t : ImageSize) (im : List (List E)) → SomeSize s → SomeSize t → Sized (s.width * c) s.height im → Sized (t.width * c) t.height (composed m c depth (stages_of o s t) im)
plan_sized m c depth shaped o s t im p q z = composed_sized m c depth shaped (stages_of o s t) s t im (stages_joined o s t p q) p z
