use Rattle.std.proofs.Common.{rules, sym, ap, ◌∙◌}
use Rattle.std.proofs.lemmas.Iterator.{YieldsList-from_slice, YieldsList-from_map}
use Rattle.std.proofs.lemmas.Iterator.Consumers.{max_from_yields_List}
use Rattle.planner.specs.Plans.{half_of}
use Rattle.planner.proofs.Largest.{top_is, counted, half_top}
use Rattle.planner.proofs.multi_step_plan.largest_between.Goals as goal

pub returns-in-Some : goal.returns-in-Some
returns-in-Some c =
    let most = max_from_yields_List c.map.result _ c.max.ensures.ran
    (YieldsList-from_map _ (counted c.args.channels) (YieldsList-from_slice c.in-Some.before.now (cc)) c.map.ensures.closure (λ x r q k. search rules)) in
    let e = c.in-Some.ensures.cases.0 in
    top_is _ _ _ most c.unwrap_or.ensures ∙ half_top _ _ _ c.requires.channels (rw e at c.requires.sized) ∙ ap (half_of c.args.channels) (sym e)
