use Rattle.std.proofs.Common.{ℕ, ◌-◌, [], ◌∷◌, ◌++◌, length, get_or, take, drop, sym, ap, ◌∙◌, subst, arith}
use Rattle.planner.specs.declared.scaler.Scaler.{Scaler}
use Rattle.planner.specs.Chains.{Linked}
use Rattle.planner.specs.Plans.{half_of}
use Rattle.planner.specs.Plan.{plan_stages}
use Rattle.resampling.specs.declared.multi_step_plan.Settings.{Settings}
use Rattle.resampling.specs.Running.{AllRunnable}
use Rattle.resampling.proofs.Chained.{blank}
use Rattle.resampling.proofs.Plans.{split, only, linked_last, plan_runnable, parted, same_value, same_fit, same_rows}
use Rattle.resampling.proofs.multi_step_plan.run_plan.Goals as goal

pub run_stage-requires-clause-ready : goal.run_stage-requires-clause-ready
run_stage-requires-clause-ready g c =
    let p = c.args.plan.now in
    let plan = c.stages-stages.ensures in
    let sts = c.stages-stages.result.now in
    let o : Settings g.row.F.Denot = record { family = c.family.result; route = c.scaler.result.route; channels = c.channels.result; depth = c.args.depth } in
    let all = plan_runnable g.T.Element.NEEDS_DEPTH o p.scaler p.channels p.source_size p.target_size sts _ (ap (λ (z : Scaler). z.route) c.scaler.ensures) c.channels.ensures plan.value plan.chain.sized p.pixels.0 p.pixels.1 c.requires.depth c.requires.work in
    (subst (AllRunnable g.T.Element.NEEDS_DEPTH o _) (only sts blank (omega (arith, plan.chain.some))) all).0

pub run_chain-requires : goal.run_chain-requires
run_chain-requires g c =
    let p = c.args.plan.now in
    let plan = c.stages-stages.ensures in
    let sts = c.stages-stages.result.now in
    let o : Settings g.row.F.Denot = record { family = c.family.result; route = c.scaler.result.route; channels = c.channels.result; depth = c.args.depth } in
    let all = plan_runnable g.T.Element.NEEDS_DEPTH o p.scaler p.channels p.source_size p.target_size sts _ (ap (λ (z : Scaler). z.route) c.scaler.ensures) c.channels.ensures plan.value plan.chain.sized p.pixels.0 p.pixels.1 c.requires.depth c.requires.work in
    let k = length sts - 1 in
    let h = get_or sts 0 blank in
    let t = get_or sts k blank in
    let mid = take (k - 1) (drop 1 sts) in
    let parts = split sts blank k (omega arith) (omega arith) in
    let half = ap (half_of o.channels) plan.value ∙ ap (λ (n : ℕ). half_of n (plan_stages p)) c.channels.ensures in
    let q = parted g.T.Element.NEEDS_DEPTH o _ p.source_size p.target_size sts h mid t parts plan.chain.linked all in
    record {
      linked = q.linked;
      ready = q.ready;
      first = q.room _ (omega (arith, half, c.requires.halves.0));
      second = q.room _ (omega (arith, half, c.requires.halves.1));
      source = same_rows _ _ _ _ _ c.channels.ensures q.begins c.requires.source;
      target = same_fit _ _ _ _ _ _ c.channels.ensures q.ends c.requires.target;
    }

pub returns-in-len2-up : goal.returns-in-len2-up
returns-in-len2-up g c =
    let p = c.args.plan.now in
    let plan = c.stages-stages.ensures in
    let sts = c.stages-stages.result.now in
    let k = length sts - 1 in
    let h = get_or sts 0 blank in
    let t = get_or sts k blank in
    let mid = take (k - 1) (drop 1 sts) in
    let parts = split sts blank k (omega arith) (omega arith) in
    let linked = subst (Linked p.source_size p.target_size) parts plan.chain.linked in
    c.run_chain.ensures
    ∙ same_value _ _ _ _ _ _ _ _ (h ∷ (mid ++ t ∷ [])) _ _ _ (ap g.F.KernelFamily.meaning c.family.ensures) c.channels.ensures (sym parts ∙ plan.value) (linked_last h.target p.target_size mid t linked.1)
