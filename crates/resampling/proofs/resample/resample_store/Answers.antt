use Rattle.std.proofs.Common.{◌≡◌, true, false, cond, is_ok, eqb, ◌&&◌, sym, ap, ◌∙◌, rules}
use Rattle.std.proofs.lemmas.Result.{err_from_is_err_and}
use Rattle.image.specs.Rows.{row, painted}
use Rattle.image.specs.Stores.{elements_mut, laid}
use Rattle.image.proofs.Granted.{source_sound, target_sound, joined_granted, exact_pitch}
use Rattle.image.proofs.Copied.{laid_by}
use Rattle.planner.specs.Plan.{plan_stages}
use Rattle.values.specs.Values.{composed}
use Rattle.history.specs.Calls.{match_answer}
use Rattle.history.specs.Calls.Window.{whole}
use Rattle.history.proofs.Allowed.{matched}
use Rattle.history.proofs.Steps.{value_copied}
use Rattle.resampling.specs.Seen.{request_of, call_of}
use Rattle.resampling.proofs.Resampled.{joined_three, sizes_by, buffers_equal, buffers_asked, same_granted, plan_fits, plan_rows}
use Rattle.resampling.proofs.resample.resample_store.Goals as goal

-- a refusal after a write is told here
pub returns-in_err-check_match : goal.returns-in_err-check_match
unfolding match_answer
returns-in_err-check_match g c = search rules

pub returns-then-eq-clause-reply : goal.returns-then-eq-clause-reply
returns-then-eq-clause-reply g c =
    let d = c.args.into.now.numbers in
    let s = c.args.source.now.numbers in
    let ok1 = c.in_ok-validate.ensures in
    let ok2 = c.in_ok-rows.ensures.reply in
    let ok3 = c.in_ok-check_match.ensures in
    let r = request_of c.args.plan.now in
    let m = matched r d s ok3 in
    let eq : (eqb s.width d.width && eqb s.height d.height) ≡ true = rw (c.size.ensures, c.size-2.ensures) at (sym c.if-eq.ensures) in
    let copy = joined_granted _ _ ok1 (joined_granted _ _ ok2 (same_granted d s (m.channels ∙ sym m.source_channels) eq)) in
    c.copied_to_mut.ensures.reply ∙ (sym copy ∙ joined_three _ _ _ _ _ ok1 ok2 ok3 (buffers_equal _ r _ _ _ _ (sym (sizes_by r d s m) ∙ eq)))

pub returns-then-eq-clause-after : goal.returns-then-eq-clause-after
returns-then-eq-clause-after g c =
    let p = c.args.plan.now in
    let d = c.args.into.now.numbers in
    let s = c.args.source.now.numbers in
    let m = matched (request_of p) d s c.in_ok-check_match.ensures in
    let eq : (eqb s.width d.width && eqb s.height d.height) ≡ true = rw (c.size.ensures, c.size-2.ensures) at (sym c.if-eq.ensures) in
    let call = call_of (g.F.KernelFamily.meaning p.family) p whole c.args.source.now c.args.work.now c.args.first.now c.args.second.now in
    c.copied_to_mut.ensures.after
    ∙ ap (λ im. cond (is_ok c.copied_to_mut.result) (laid d im (elements_mut c.args.into.now)) (elements_mut c.args.into.now)) (sym (value_copied call d d.bit_depth m (source_sound _ _ _ c.in_ok-rows.ensures.reply) (sym (sizes_by (request_of p) d s m) ∙ eq)))

pub returns-in_err-check_buffers-clause-reply : goal.returns-in_err-check_buffers-clause-reply
returns-in_err-check_buffers-clause-reply g c =
    let r = request_of c.args.plan.now in
    let d = c.args.into.now.numbers in
    let s = c.args.source.now.numbers in
    let ok3 = c.in_ok-check_match.ensures in
    let unequal : (eqb s.width d.width && eqb s.height d.height) ≡ false = rw (c.size.ensures, c.size-2.ensures) at (sym c.if-eq.ensures) in
    let q = err_from_is_err_and c.from_residual-in_err-check_buffers.result c.from_residual-in_err-check_buffers.ensures.1 in
    rw (q.1, q.2) (joined_three _ _ _ _ _ c.in_ok-validate.ensures c.in_ok-rows.ensures.reply ok3 (c.in_err-check_buffers.ensures ∙ buffers_asked _ r _ _ _ _ (sym (sizes_by r d s (matched r d s ok3)) ∙ unequal)))

pub run_plan-requires-clause-source : goal.run_plan-requires-clause-source
run_plan-requires-clause-source g c =
    let p = c.args.plan.now in
    let s = c.args.source.now.numbers in
    let m = matched (request_of p) c.args.into.now.numbers s c.in_ok-check_match.ensures in
    plan_rows s p.channels p.source_size c.in_ok-rows.rows c.in_ok-rows.ensures.width c.in_ok-rows.ensures.height m.source_channels m.source_width m.source_height

pub run_plan-requires-clause-target : goal.run_plan-requires-clause-target
run_plan-requires-clause-target g c =
    let p = c.args.plan.now in
    let d = c.args.into.now.numbers in
    let m = matched (request_of p) d c.args.source.now.numbers c.in_ok-check_match.ensures in
    let a = target_sound _ _ _ c.in_ok-validate.ensures in
    plan_fits d _ p.channels _ p.target_size a m.channels m.width m.height (exact_pitch d _ _ a c.pitch.ensures)

pub returns-clause-reply : goal.returns-clause-reply
returns-clause-reply g c =
    let r = request_of c.args.plan.now in
    let d = c.args.into.now.numbers in
    let s = c.args.source.now.numbers in
    let ok3 = c.in_ok-check_match.ensures in
    let unequal : (eqb s.width d.width && eqb s.height d.height) ≡ false = rw (c.size.ensures, c.size-2.ensures) at (sym c.if-eq.ensures) in
    joined_three _ _ _ _ _ c.in_ok-validate.ensures c.in_ok-rows.ensures.reply ok3 (c.in_ok-check_buffers.ensures ∙ buffers_asked _ r _ _ _ _ (sym (sizes_by r d s (matched r d s ok3)) ∙ unequal))

pub returns-clause-after : goal.returns-clause-after
returns-clause-after g c =
    let p = c.args.plan.now in
    let d = c.args.into.now.numbers in
    let xs = elements_mut c.args.into.now in
    let m = matched (request_of p) d c.args.source.now.numbers c.in_ok-check_match.ensures in
    let a = target_sound _ _ _ c.in_ok-validate.ensures in
    c.run_plan.ensures
    ∙ (ap (λ im. painted xs c.pitch.result (row (composed (g.F.KernelFamily.meaning p.family) p.channels d.bit_depth (plan_stages p) im)) p.target_size.height) c.in_ok-rows.ensures.image
    ∙ laid_by d _ xs _ _ (exact_pitch d _ _ a c.pitch.ensures) (sym m.height))
