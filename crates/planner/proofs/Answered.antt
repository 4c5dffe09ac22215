-- The answer of planning, check by check. Assumes nothing.
use Rattle.std.proofs.Common.{◌≡◌, ℕ, Bool, true, false, eqb, List, [], ◌∷◌, ◌++◌, sym, refl, ap, ◌∙◌, inl, inr}
use Rattle.std.proofs.lemmas.Bool.{cases_Bool}
use Rattle.image.specs.declared.image_size.ImageSize.{ImageSize}
use Rattle.image.specs.declared.validation.PicScaleError.{PicScaleError}
use Rattle.image.specs.Refusals.{Answer, Check, check, answer, and_then, number_of, values_of}
use Rattle.image.specs.Refusals.Answer.{granted, refused}
use Rattle.sampler.specs.declared.sampler.ResamplingFunction.{ResamplingFunction}
use Rattle.planner.specs.declared.scaler.Scaler.{Scaler}
use Rattle.planner.specs.Stages.{stages_of}
use Rattle.planner.specs.Plans.{size_checks, some_unknown, plan_answer}
use Rattle.planner.specs.Plan.{but_for_memory}

answer-++ : (xs ys : List Check) → answer (xs ++ ys) ≡ and_then (answer xs) (answer ys)
answer-++ [] ys = refl
answer-++ (x ∷ xs) ys = elim (cases_Bool x.holds) [ inl e ↦ rw e refl | inr e ↦ rw e (answer-++ xs ys) ]

-- none of the checks stands for want of memory
abbrev Numbered : List Check → Type 0
Numbered [] = Unit {0}
Numbered (x ∷ xs) = (eqb x.number 100 ≡ false) × Numbered xs

aside : (xs : List Check) → Numbered xs → but_for_memory (answer xs) ≡ answer xs
aside [] h = refl
aside (x ∷ xs) h = elim (cases_Bool x.holds) [ inl e ↦ rw (e, h.0) refl | inr e ↦ rw e (aside xs h.1) ]

module _ (knows : ResamplingFunction → Bool) (o : Scaler) (c : ℕ) (s t : ImageSize) where
  abbrev last : Answer
  last = answer (check (some_unknown knows (stages_of o s t)) 7 [] ∷ [])

  parted : plan_answer knows o c s t ≡ and_then (answer (size_checks c s t)) last
  unfolding plan_answer
  parted = answer-++ (size_checks c s t) (check (some_unknown knows (stages_of o s t)) 7 [] ∷ [])

  pub sizes_refused : (e : PicScaleError) → refused (number_of e) (values_of e) ≡ answer (size_checks c s t)
      → but_for_memory (refused (number_of e) (values_of e)) ≡ plan_answer knows o c s t
  sizes_refused e h =
      let none = aside (size_checks c s t) (refl, (refl, (refl, (refl, (refl, (refl, tt)))))) in
      ap but_for_memory h ∙ none ∙ sym h ∙ ap (λ (a : Answer). and_then a last) h ∙ sym parted

  module _ (fits : granted ≡ answer (size_checks c s t)) where
    from_last : last ≡ plan_answer knows o c s t
    from_last = ap (λ (a : Answer). and_then a last) fits ∙ sym parted

    pub function_refused : true ≡ some_unknown knows (stages_of o s t) → refused 7 [] ≡ plan_answer knows o c s t
    function_refused e = ap (λ (b : Bool). answer (check b 7 [] ∷ [])) e ∙ from_last

    pub plan_granted : false ≡ some_unknown knows (stages_of o s t) → granted ≡ plan_answer knows o c s t
    plan_granted e = ap (λ (b : Bool). answer (check b 7 [] ∷ [])) e ∙ from_last
