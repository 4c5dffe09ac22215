use Rattle.std.proofs.Common.{rules, ◌∙◌}
use Rattle.std.proofs.lemmas.Iterator.{YieldsList-from_slice, YieldsList-from_map}
use Rattle.std.proofs.lemmas.Iterator.Consumers.{max_from_yields_List}
use Rattle.planner.specs.declared.stage.Stage.{Stage}
use Rattle.planner.specs.Plans.{work_by}
use Rattle.planner.proofs.Largest.{top_is, work_top}
use Rattle.planner.proofs.multi_step_plan.largest_scratch.Goals as goal

pub returns : goal.returns
returns c =
    let most = max_from_yields_List c.map.result _ c.max.ensures.ran
    (YieldsList-from_map _ (λ (st : Stage). work_by st.kind c.args.route c.args.channels st) (YieldsList-from_slice c.args.steps.now (cc)) c.map.ensures.closure (λ x r q k. search rules)) in
    top_is _ _ _ most c.unwrap_or.ensures ∙ work_top _ _ _
