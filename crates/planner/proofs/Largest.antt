-- The largest of a list of stages, and that no stage passes it. Assumes nothing.
use Rattle.std.proofs.Common.{◌≡◌, ℕ, ◌-◌, ◌^◌, ◌<◌, ◌≤◌, max, min, List, [], ◌∷◌, ◌++◌, map, length, get_or, Option, sym, refl, ap, ◌∙◌, zero, suc, rules, arith}
use Rattle.std.specs.List.{fold, reduce}
use Rattle.std.specs.Option.{unwrap_or, option_map}
use Rattle.std.proofs.lemmas.Iterator.Adapters.{option_map_id}
use Rattle.planner.specs.declared.scaler.Route.{Route}
use Rattle.planner.specs.declared.stage.Stage.{Stage}
use Rattle.planner.specs.Chains.{Dimensions, WellSized, Each}
use Rattle.planner.specs.Plans.{area, work_by, work_of, half_of}

-- the largest number, or 0
abbrev pub top : List ℕ → ℕ
top xs = unwrap_or (reduce max xs) 0

-- the same, as `max` and `unwrap_or` give it
pub top_is : (xs : List ℕ) (r : Option ℕ) (m : ℕ) → option_map (λ x. x) r ≡ reduce max xs → m ≡ unwrap_or r 0 → m ≡ top xs
top_is xs r m e is = is ∙ ap (λ o. unwrap_or o 0) (sym (option_map_id r) ∙ e)

top_more : (m : ℕ) (xs : List ℕ) → fold max m xs ≡ max m (top xs)
top_more m [] = omega arith
top_more m (x ∷ xs) = omega (arith, top_more (max m x) xs, top_more x xs)

pub work_top : (r : Route) (c : ℕ) (sts : List Stage) → top (map (λ (st : Stage). work_by st.kind r c st) sts) ≡ work_of r c sts
work_top r c [] = refl
work_top r c (st ∷ sts) = omega (arith, top_more (work_by st.kind r c st) (map (λ (x : Stage). work_by x.kind r c x) sts), work_top r c sts)

-- the elements of an image, as its size counts them
abbrev pub counted : ℕ → Stage → ℕ
counted c st = min (area c st.target) (2 ^ 64 - 1)

counted_is : (c : ℕ) (st : Stage) → c ≤ 4 → Dimensions st.target → counted c st ≡ area c st.target
counted_is c st h d = search rules

-- the last stage needs no half
pub half_top : (c : ℕ) (sts : List Stage) (st : Stage) → c ≤ 4 → Each WellSized (sts ++ st ∷ []) → top (map (counted c) sts) ≡ half_of c (sts ++ st ∷ [])
half_top c [] st h each = refl
half_top c (x ∷ []) st h each = omega (arith, counted_is c x h (each zero x (omega arith)).target)
half_top c (x ∷ y ∷ sts) st h each =
    omega (arith, counted_is c x h (each zero x (omega arith)).target, top_more (counted c x) (map (counted c) (y ∷ sts)), half_top c (y ∷ sts) st h (λ k d lt. each (suc k) d (omega arith)))

-- no stage needs more than the work size
pub work_most : (r : Route) (c : ℕ) (xs : List Stage) (k : ℕ) (d : Stage) → k < length xs → work_by (get_or xs k d).kind r c (get_or xs k d) ≤ work_of r c xs
work_most r c [] k d h = absurd (omega arith)
work_most r c (x ∷ xs) zero d h = omega arith
work_most r c (x ∷ xs) (suc k) d h = omega (arith, work_most r c xs k d (omega arith))

-- no stage but the last writes more than a half has
pub half_most : (c : ℕ) (xs : List Stage) (k : ℕ) (d : Stage) → suc k < length xs → area c (get_or xs k d).target ≤ half_of c xs
half_most c [] k d h = absurd (omega arith)
half_most c (x ∷ []) k d h = absurd (omega arith)
half_most c (x ∷ y ∷ xs) zero d h = omega arith
half_most c (x ∷ y ∷ xs) (suc k) d h = omega (arith, half_most c (y ∷ xs) k d (omega arith))
