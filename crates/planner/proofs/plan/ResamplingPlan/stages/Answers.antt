use Rattle.std.proofs.Common.{◌∙◌}
use Rattle.planner.proofs.Sized.{chain_at}
use Rattle.planner.proofs.plan.ResamplingPlan.stages.Goals as goal

pub returns-clause-chain : goal.returns-clause-chain
returns-clause-chain g c =
    let p = c.args.self.now in
    chain_at _ _ _ _ (c.as_slice.ensures.value ∙ p.stages) p.sizes.0 p.sizes.1
