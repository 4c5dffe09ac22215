-- A plan as other definitions speak of it, and what planning promises of one.
use Rattle.std.specs.Prelude.{◌≡◌, ℕ, cond, List, vec_items, ◌==◌}
use Rattle.image.specs.declared.image_size.ImageSize.{ImageSize}
use Rattle.image.specs.Refusals.{Answer}
use Rattle.image.specs.Refusals.Answer.{granted, refused}
use Rattle.planner.specs.declared.plan.ResamplingPlan.{ResamplingPlan}
use Rattle.planner.specs.declared.scaler.Scaler.{Scaler}
use Rattle.planner.specs.declared.stage.Stage.{Stage}
use Rattle.planner.specs.Stages.{stages_of}
use Rattle.planner.specs.Chains.{Chain}
use Rattle.planner.specs.Plans.{work_of, half_of}

module _ {T F : Type 0} where
  -- the stages that a plan's sizes, function and flags have
  abbrev pub plan_stages : ResamplingPlan T F → List Stage
  plan_stages p = stages_of p.scaler p.source_size p.target_size

  -- the elements that its work buffer needs, and each of its halves
  abbrev pub plan_work : ResamplingPlan T F → ℕ
  plan_work p = work_of p.scaler.route p.channels (plan_stages p)

  abbrev pub plan_half : ResamplingPlan T F → ℕ
  plan_half p = half_of p.channels (plan_stages p)

  -- a plan is what was asked for: by this family and scaler, for these channels and sizes
  pub record Planned (m : F) (o : Scaler) (c : ℕ) (s t : ImageSize) (p : ResamplingPlan T F) : Type 0 where
    pub family : p.family ≡ m
    pub scaler : p.scaler ≡ o
    pub channels : p.channels ≡ c
    pub source : p.source_size ≡ s
    pub target : p.target_size ≡ t
    pub table : vec_items p.steps ≡ stages_of o s t
    pub work : p.kernel_scratch_size ≡ work_of o.route c (stages_of o s t)
    pub half : p.ping_pong_size ≡ half_of c (stages_of o s t)
    pub chain : Chain s t (stages_of o s t)

-- an answer with want of memory put aside, of which no rule speaks: what lacked it had been granted
abbrev pub but_for_memory : Answer → Answer
but_for_memory granted = granted
but_for_memory (refused n vs) = cond (n == 100) granted (refused n vs)
