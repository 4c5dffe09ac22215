use Rattle.std.proofs.Common.{◌≡◌, Bool, not, ◌∷◌, length, Option, Some, ap, ◌∙◌, inl, inr, arith}
use Rattle.std.proofs.lemmas.Bool.{cases_Bool}
use Rattle.std.specs.Bool.{then_some}
use Rattle.image.specs.declared.image_size.ImageSize.{ImageSize}
use Rattle.sampler.specs.Functions.{twice_ratio}
use Rattle.planner.specs.declared.stage.Stage.{Stage}
use Rattle.planner.specs.declared.stages.Stages.{Stages}
use Rattle.planner.specs.declared.strategy.Strategy.{Strategy}
use Rattle.planner.specs.declared.strategy.Strategy.TheVariants.{MultiStep}
use Rattle.planner.specs.Stages.{stage_of, same_size, grown_size}
use Rattle.planner.specs.Strategies.{stages_left}
use Rattle.planner.specs.Left.{left}
use Rattle.planner.proofs.Growth.{after, arrives, goes_on}
use Rattle.planner.proofs.Sized.{below}
use Rattle.planner.proofs.stages.StagesIterator.next.Goals as goal

-- a stage of an enlargement, and those after it
turn : (s : Stages) (n : ImageSize) (more : Bool) (next : Option Strategy) (st : Stage) → s.strategy ≡ Some MultiStep → n ≡ grown_size (twice_ratio s.function) s.target s.at
    → more ≡ not (same_size n s.target) → next ≡ then_some more MultiStep → st ≡ stage_of s.function s.at n
    → left s ≡ st ∷ stages_left next s.function n s.target
turn s n more next st e at is by first =
    let f = s.function in
    let b = below s.at s.target s.sizes.0 (rw e at s.suited) in
    elim (cases_Bool (same_size (after f s.at s.target) s.target)) [
      | inl h ↦ rw (e, first, by, is, at, h) (arrives f s.at s.target b h)
      | inr h ↦ rw (e, first, by, is, at, h) (goes_on f s.at s.target b h)
    ]

pub returns-in-MultiStep-clause-steps : goal.returns-in-MultiStep-clause-steps
returns-in-MultiStep-clause-steps c =
    turn c.args.self.now _ _ _ _ (c.in_ok-self.was ∙ ap Some c.in-MultiStep.is) (c.next_intermediate_size-next_size.ensures ∙ ap (λ r. grown_size r c.args.self.now.target c.args.self.now.at) c.args.self.now.bears) c.ne.ensures c.then_some-self.ensures c.new-in-MultiStep.ensures

pub returns-in-MultiStep-clause-goes : goal.returns-in-MultiStep-clause-goes
returns-in-MultiStep-clause-goes c =
    let e = returns-in-MultiStep-clause-steps c in
    record { on = λ _. (tt, tt, omega (arith, ap length e)); keeps = tt; rests = λ _. tt }
