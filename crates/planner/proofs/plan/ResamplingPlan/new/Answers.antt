use Rattle.std.proofs.Common.{refl, ap, ◌∙◌}
use Rattle.planner.specs.Plans.{work_of, half_of}
use Rattle.planner.proofs.Sized.{chain, chain_at}
use Rattle.planner.proofs.plan.ResamplingPlan.new.Goals as goal

pub largest_scratch-kernel_scratch_size-requires-clause-sized :
    goal.largest_scratch-kernel_scratch_size-requires-clause-sized
largest_scratch-kernel_scratch_size-requires-clause-sized g c =
    (chain_at _ _ _ _ (c.deref.ensures.value ∙ c.requires) c.args.task.sizes.0 c.args.task.sizes.1).sized

pub largest_between-ping_pong_size-requires-clause-sized :
    goal.largest_between-ping_pong_size-requires-clause-sized
largest_between-ping_pong_size-requires-clause-sized g c =
    (chain_at _ _ _ _ (c.deref-2.ensures.value ∙ c.requires) c.args.task.sizes.0 c.args.task.sizes.1).sized

pub returns : goal.returns
returns g c = record {
  family = refl;
  scaler = refl;
  channels = refl;
  source = refl;
  target = refl;
  table = c.requires;
  work = c.largest_scratch-kernel_scratch_size.ensures ∙ ap (work_of c.args.task.scaler.route c.args.task.channels) (c.deref.ensures.value ∙ c.requires);
  half = c.largest_between-ping_pong_size.ensures ∙ ap (half_of c.args.task.channels) (c.deref-2.ensures.value ∙ c.requires);
  chain = chain c.args.task.scaler c.args.task.source c.args.task.target c.args.task.sizes.0 c.args.task.sizes.1;
}
