-- Lists of stages: where they end, what they come to, and what is left in a half.
use Rattle.std.proofs.Common.{◌≡◌, ℕ, ◌+◌, ◌-◌, ◌*◌, ◌<◌, ◌≤◌, Bool, true, false, cond, List, [], ◌∷◌, ◌++◌, length, get_or, take, refl, ap, ◌∙◌, arith, rules}
use Rattle.std.proofs.lemmas.List.{places, same_lists, take_more}
use Rattle.image.specs.Rows.{part, rows}
use Rattle.image.specs.declared.image_size.ImageSize.{ImageSize}
use Rattle.image.proofs.Strides.{row_fits}
use Rattle.convolution.specs.Meaning.{Meaning}
use Rattle.sampler.specs.declared.sampler.ResamplingFunction.TheVariants.{Bilinear}
use Rattle.planner.specs.declared.stage.Stage.{Stage}
use Rattle.planner.specs.declared.stage.StageKind.TheVariants.{Copied}
use Rattle.planner.specs.Chains.{Linked}
use Rattle.values.specs.Values.{stage_value, composed}
use Rattle.values.proofs.Copies.{listed_same}
use Rattle.resampling.specs.Running.{end_of}

-- what a stage past the last would be
abbrev pub blank : Stage
blank = record { kind = Copied; function = Bilinear; source = record { width = 0; height = 0 }; target = record { width = 0; height = 0 } }

end_last : (s : ImageSize) (us : List Stage) (v : Stage) → end_of s (us ++ v ∷ []) ≡ v.target
end_last s [] v = refl
end_last s (u ∷ us) v = end_last u.target us v

-- one stage on
pub end_more : (s : ImageSize) (sts : List Stage) (i : ℕ) (z : Stage) → i < length sts → end_of s (take (i + 1) sts) ≡ (get_or sts i z).target
end_more s sts i z l = ap (end_of s) (take_more sts i z l) ∙ end_last s (take i sts) (get_or sts i z)

pub linked_end : (s t : ImageSize) (sts : List Stage) → Linked s t sts → end_of s sts ≡ t
linked_end s t [] e = e
linked_end s t (st ∷ sts) e = linked_end st.target t sts e.1

module _ {E : Type 0} (m : Meaning E) (c depth : ℕ) where
  pub composed_append : (us vs : List Stage) (im : List (List E)) → composed m c depth (us ++ vs) im ≡ composed m c depth vs (composed m c depth us im)
  composed_append [] vs im = refl
  composed_append (a ∷ us) vs im = composed_append us vs (stage_value m c depth a im)

module _ {X : Type 0} where
  part-take : (k n len : ℕ) (xs : List X) → k + n ≤ len → part k n (take len xs) ≡ part k n xs
  part-take k n len xs h = same_lists _ _ (search (rules, places)) (λ i d b. grind (arith, places))

  -- the rows of a front that holds them all
  pub rows_take : (xs : List X) (n s h len : ℕ) → s * (h - 1) + n ≤ len → rows (take len xs) n s h ≡ rows xs n s h
  rows_take xs n s h len fits = listed_same _ _ h (λ y l. part-take (y * s) n len xs (row_fits y h s n len l fits))

  pub either_long : (flipped : Bool) (a b : List X) (n : ℕ) → n ≤ length a → n ≤ length b → n ≤ length (cond flipped b a)
  either_long true a b n p q = q
  either_long false a b n p q = p
