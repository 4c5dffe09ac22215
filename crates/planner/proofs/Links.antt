-- Linked stages by their places. Assumes nothing.
use Rattle.std.proofs.Common.{◌≡◌, ℕ, zero, suc, ◌<◌, List, [], ◌∷◌, length, get_or, drop, refl, arith}
use Rattle.image.specs.declared.image_size.ImageSize.{ImageSize}
use Rattle.planner.specs.declared.stage.Stage.{Stage}
use Rattle.planner.specs.Chains.{Linked}

pub first_begins : (s t : ImageSize) (sts : List Stage) (d : Stage) → 0 < length sts → Linked s t sts → (get_or sts 0 d).source ≡ s
first_begins s t [] d h l = absurd (omega arith)
first_begins s t (x ∷ xs) d h l = l.0

pub next_begins : (s t : ImageSize) (sts : List Stage) (k : ℕ) (d : Stage) → suc k < length sts → Linked s t sts → (get_or sts (suc k) d).source ≡ (get_or sts k d).target
next_begins s t [] k d h l = absurd (omega arith)
next_begins s t (x ∷ xs) zero d h l = first_begins x.target t xs d (omega arith) l.1
next_begins s t (x ∷ xs) (suc k) d h l = next_begins x.target t xs k d (omega arith) l.1

pub last_ends : (s t : ImageSize) (sts : List Stage) (k : ℕ) (d : Stage) → length sts ≡ suc k → Linked s t sts → (get_or sts k d).target ≡ t
last_ends s t [] k d h l = absurd (omega arith)
last_ends s t (x ∷ []) zero d h l = l.1
last_ends s t (x ∷ y ∷ xs) zero d h l = absurd (omega arith)
last_ends s t (x ∷ xs) (suc k) d h l = last_ends x.target t xs k d (omega arith) l.1

-- the stages from place k on are linked too
pub links_from : (s t : ImageSize) (sts : List Stage) (k : ℕ) (d : Stage) → k < length sts → Linked s t sts → Linked (get_or sts k d).source t (drop k sts)
links_from s t [] k d h l = absurd (omega arith)
links_from s t (x ∷ xs) zero d h l = (refl, l.1)
links_from s t (x ∷ xs) (suc k) d h l = links_from x.target t xs k d (omega arith) l.1
