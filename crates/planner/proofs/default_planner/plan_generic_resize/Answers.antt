use Rattle.std.proofs.lemmas.Result.{err_from_is_err_and}
use Rattle.planner.proofs.Answered.{sizes_refused, function_refused, plan_granted}
use Rattle.planner.proofs.default_planner.plan_generic_resize.Goals as goal

pub returns-in_err-task-clause-answer : goal.returns-in_err-task-clause-answer
returns-in_err-task-clause-answer g c =
    let p = err_from_is_err_and c.from_residual.result c.from_residual.ensures.1 in
    rw (p.1, p.2) (sizes_refused _ _ _ _ _ _ c.in_err-task.ensures.answer)

pub returns-then-some_unknown-clause-answer : goal.returns-then-some_unknown-clause-answer
returns-then-some_unknown-clause-answer g c =
    let k = c.in_ok-task.ensures.task in
    function_refused _ _ _ _ _ c.in_ok-task.ensures.answer (rw (k.0, k.2, k.3) at c.if-some_unknown.ensures)

pub returns-in_err-steps-clause-answer : goal.returns-in_err-steps-clause-answer
returns-in_err-steps-clause-answer g c =
    let p = err_from_is_err_and c.from_residual-in_err-steps.result c.from_residual-in_err-steps.ensures.1 in
    let k = c.in_ok-task.ensures.task in
    rw (p.1, p.2, c.in_err-steps.ensures) (plan_granted _ _ _ _ _ c.in_ok-task.ensures.answer (rw (k.0, k.2, k.3) at c.if-some_unknown.ensures))

pub returns-clause-answer : goal.returns-clause-answer
returns-clause-answer g c =
    let k = c.in_ok-task.ensures.task in
    plan_granted _ _ _ _ _ c.in_ok-task.ensures.answer (rw (k.0, k.2, k.3) at c.if-some_unknown.ensures)
