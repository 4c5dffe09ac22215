-- The stages that a plan has for its sizes, function and flags.
use Rattle.std.specs.Prelude.{ℕ, zero, suc, ◌+◌, ◌*◌, ◌/◌, min, Bool, cond, ◌&&◌, ◌||◌, List, [], ◌∷◌, Some, None, Option, ◌==◌, nat_le}
use Rattle.image.specs.declared.image_size.ImageSize.{ImageSize}
use Rattle.sampler.specs.declared.sampler.ResamplingFunction.{ResamplingFunction}
use Rattle.sampler.specs.declared.sampler.ResamplingFunction.TheVariants.{Nearest, Box}
use Rattle.sampler.specs.Functions.{is_nearest, twice_ratio}
use Rattle.planner.specs.declared.scaler.Scaler.{Scaler}
use Rattle.planner.specs.declared.stage.Stage.{Stage}
use Rattle.planner.specs.declared.stage.StageKind.{StageKind}
use Rattle.planner.specs.declared.stage.StageKind.TheVariants.{Copied, Sampled, Vertical, Horizontal, Both}

-- what a stage does: nearest for its function, and else by which dimensions differ
abbrev pub kind_of : ResamplingFunction → ImageSize → ImageSize → StageKind
kind_of f s t =
    cond (is_nearest f) Sampled
    (cond (s.width == t.width)
    (cond (s.height == t.height) Copied Vertical)
    (cond (s.height == t.height) Horizontal Both))

abbrev pub stage_of : ResamplingFunction → ImageSize → ImageSize → Stage
stage_of f s t = record { kind = kind_of f s t; function = f; source = s; target = t }

-- the letter of a kind of stage, by its code: C, N, V, H, B
abbrev pub letter_of : StageKind → ℕ
letter_of Copied = 67
letter_of Sampled = 78
letter_of Vertical = 86
letter_of Horizontal = 72
letter_of Both = 66

-- one axis, one stage on: the smaller of the target and the size times the ratio, rounded up; r is twice the ratio
abbrev pub grown : ℕ → ℕ → ℕ → ℕ
grown r t v = min t ((v * r + 1) / 2)

abbrev pub grown_size : ℕ → ImageSize → ImageSize → ImageSize
grown_size r t s = record { width = grown r t.width s.width; height = grown r t.height s.height }

abbrev pub same_size : ImageSize → ImageSize → Bool
same_size s t = s.width == t.width && s.height == t.height

-- stage after stage, until both axes have the target; no more than k
unfoldable pub growing : ℕ → ResamplingFunction → ImageSize → ImageSize → List Stage
growing zero f s t = []
growing (suc k) f s t =
    stage_of f s (grown_size (twice_ratio f) t s)
    ∷ cond (same_size (grown_size (twice_ratio f) t s) t) [] (growing k f (grown_size (twice_ratio f) t s) t)

-- a stage that does not arrive makes some axis larger, so this many stages always suffice
abbrev pub enough : ImageSize → ℕ
enough t = t.width + t.height

-- neither dimension of the first is above the second's
abbrev pub within : ImageSize → ImageSize → Bool
within s t = nat_le s.width t.width && nat_le s.height t.height

-- some axis of the source is at least k times the target's
abbrev pub shrinks : ℕ → ImageSize → ImageSize → Bool
shrinks k s t = nat_le (k * t.width) s.width || nat_le (k * t.height) s.height

abbrev pub prefilter : ImageSize → ImageSize → Option ResamplingFunction
prefilter s t = cond (shrinks 4 s t) (Some Nearest) (cond (shrinks 3 s t) (Some Box) None)

-- the size after the prefilter
abbrev pub between : ImageSize → ImageSize → ImageSize
between s t = record { width = min s.width (2 * t.width); height = min s.height (2 * t.height) }

abbrev pub prefiltered : Option ResamplingFunction → ResamplingFunction → ImageSize → ImageSize → List Stage
prefiltered None f s t = stage_of f s t ∷ []
prefiltered (Some p) f s t = stage_of p s (between s t) ∷ stage_of f (between s t) t ∷ []

-- all the stages of a plan
unfoldable pub stages_of : Scaler → ImageSize → ImageSize → List Stage
stages_of o s t =
    cond (is_nearest o.function) (stage_of o.function s t ∷ [])
    (cond (o.multi_step_upscaling && within s t) (growing (enough t) o.function s t)
    (cond (o.supersampling && within t s) (prefiltered (prefilter s t) o.function s t) (stage_of o.function s t ∷ [])))
