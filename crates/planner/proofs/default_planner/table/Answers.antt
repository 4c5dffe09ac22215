use Rattle.std.proofs.Common.{◌++◌, sym, ap, ◌∙◌}
use Rattle.std.proofs.lemmas.List.{append_assoc, append-nil}
use Rattle.planner.specs.Left.{left}
use Rattle.planner.proofs.default_planner.table.Goals as goal

pub loop-stage-init : goal.loop-stage-init
loop-stage-init c = rw (c.new-steps.ensures.items, c.into_iter-stage-iterator.ensures.into_iter_gives) c.stages-stage-items.ensures

pub loop-stage-preserved : goal.loop-stage-preserved
loop-stage-preserved c =
    let held = c.loop-stage.steps.items in
    ap (λ xs. xs ++ left c.next.new.self) c.in_ok-push.ensures.items
    ∙ append_assoc held _ _
    ∙ ap (λ xs. held ++ xs) (sym c.in-Some.ensures.steps)
    ∙ c.loop-stage.invariant

pub returns : goal.returns
returns c =
    let held = c.loop-stage.steps.items in
    sym (append-nil held) ∙ ap (λ xs. held ++ xs) (sym c.in-None.ensures.steps.0) ∙ c.loop-stage.invariant
