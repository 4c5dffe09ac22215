-- What the checks of a resample show, and how its answer is joined.
use Rattle.std.proofs.Common.{◌≡◌, ℕ, ◌*◌, ◌≤◌, Bool, true, false, not, ◌&&◌, ◌||◌, eqb, ltb, ap₂, ◌∙◌, arith}
use Rattle.std.proofs.lemmas.Bool.Decides.{nat_tests}
use Rattle.image.specs.Refusals.{Answer, answer, and_then}
use Rattle.image.specs.Refusals.Answer.{granted, refused}
use Rattle.image.specs.Rows.{RowsFit}
use Rattle.image.specs.declared.numbers.Numbers.{Numbers}
use Rattle.image.specs.Stores.{pitch, row_length, same_answer}
use Rattle.image.specs.declared.image_size.ImageSize.{ImageSize}
use Rattle.image.specs.declared.source_rows.SourceRows.{SourceRows}
use Rattle.image.proofs.Granted.{Sound, Clear, clear, at_most}
use Rattle.sampler.specs.Functions.{is_nearest}
use Rattle.planner.specs.Stages.{same_size}
use Rattle.history.specs.Calls.{Request, work_size, half_size, buffer_checks, buffer_answer}
use Rattle.history.proofs.Allowed.{Matched}
use Rattle.resampling.specs.Running.{RowsOf}

pub joined_three : (a b c x d : Answer) → granted ≡ a → granted ≡ b → granted ≡ c → x ≡ d → x ≡ and_then a (and_then b (and_then c d))
joined_three granted granted granted x d p q r e = e
joined_three (refused n vs) b c x d p q r e = let z : ◌≡◌ {A = ℕ} 0 1 = cc in absurd (omega arith)
joined_three granted (refused n vs) c x d p q r e = let z : ◌≡◌ {A = ℕ} 0 1 = cc in absurd (omega arith)
joined_three granted granted (refused n vs) x d p q r e = let z : ◌≡◌ {A = ℕ} 0 1 = cc in absurd (omega arith)

-- the plan's sizes are equal where the stores' are
pub sizes_by : (r : Request) (d s : Numbers) → Matched r d s → (eqb s.width d.width && eqb s.height d.height) ≡ same_size r.source r.target
sizes_by r d s m = ap₂ (λ a b. a && b) (ap₂ eqb m.source_width m.width) (ap₂ eqb m.source_height m.height)

-- a call of equal sizes asks no more of its buffers
pub buffers_equal : (deep : Bool) (r : Request) (depth work first second : ℕ) → same_size r.source r.target ≡ true → granted ≡ buffer_answer deep r depth work first second
unfolding buffer_answer
buffers_equal deep r depth work first second e = rw e

pub buffers_asked : (deep : Bool) (r : Request) (depth work first second : ℕ) → same_size r.source r.target ≡ false → answer (buffer_checks deep r depth work first second) ≡ buffer_answer deep r depth work first second
unfolding buffer_answer
buffers_asked deep r depth work first second e = rw e

-- a copy between stores of equal channels and sizes is granted
pub same_granted : (d s : Numbers) → d.channels ≡ s.channels → (eqb s.width d.width && eqb s.height d.height) ≡ true → granted ≡ same_answer d s
unfolding same_answer
same_granted d s c e = grind (arith, nat_tests)

pub record Enough (deep : Bool) (r : Request) (d w a b : ℕ) : Type 0 where
  pub work : work_size r ≤ w
  pub first : half_size r ≤ a
  pub second : half_size r ≤ b
  pub depth : is_nearest r.scaler.function ≡ false → deep ≡ true → (1 ≤ d) × (d ≤ 16)

depth_fits : (deep nearest : Bool) (d : ℕ) → ((deep && not nearest) && (ltb d 1 || ltb 16 d)) ≡ false → nearest ≡ false → deep ≡ true → (1 ≤ d) × (d ≤ 16)
depth_fits deep nearest d e n p = (grind (arith, nat_tests), grind (arith, nat_tests))

pub buffers_enough : (deep : Bool) (r : Request) (depth work first second : ℕ) → granted ≡ answer (buffer_checks deep r depth work first second) → Enough deep r depth work first second
buffers_enough deep r depth work first second ok =
    let p : Clear (buffer_checks deep r depth work first second) = clear (buffer_checks deep r depth work first second) ok in
    record {
      work = at_most _ _ p.0;
      first = at_most _ _ p.1.0;
      second = at_most _ _ p.1.1.0;
      depth = depth_fits deep (is_nearest r.scaler.function) depth p.1.1.1.0;
    }

-- the rows of a sound store of a plan's size
pub plan_fits : (n : Numbers) (len c stride : ℕ) (s : ImageSize) → Sound n len → n.channels ≡ c → n.width ≡ s.width → n.height ≡ s.height → stride ≡ pitch n → RowsFit (s.width * c) stride s.height len
plan_fits n len c stride s ok ec ew eh es =
    let f : RowsFit (n.width * n.channels) (pitch n) n.height len = record { apart = ok.wide; within = ok.fits } in
    rw (es, ← ec, ← ew, ← eh) f

-- the rows of a store of a plan's size
pub plan_rows : {X : Type 0} (n : Numbers) (c : ℕ) (s : ImageSize) (r : SourceRows X) → r.row_length ≡ row_length n → r.height ≡ n.height → n.channels ≡ c → n.width ≡ s.width → n.height ≡ s.height → RowsOf c s r
plan_rows n c s r e f ec ew eh = record { width = e ∙ ap₂ (λ a b. a * b) ew ec; height = f ∙ eh }
