use Rattle.std.proofs.Common.{◌≡◌, ℕ, ◌+◌, ◌-◌, ◌*◌, length, take, drop, refl, ap, ◌∙◌, arith, length-drop, length-take-le, rules}
use borrow.Author.Rules.{scaled_fits≤}
use Rattle.std.proofs.lemmas.Result.{err_from_is_err_and}
use Rattle.image.specs.declared.numbers.Numbers.{Numbers}
use Rattle.image.specs.Refusals.{reply, number_of, values_of}
use Rattle.image.specs.Stores.{elements_mut, laid, place}
use Rattle.image.proofs.Granted.{target_cut}
use Rattle.history.specs.Calls.{answer_of, resample_answer, asked, plan_value}
use Rattle.history.specs.Calls.Window.{part}
use Rattle.history.proofs.Steps.{answered_step, refused_step}
use Rattle.history.proofs.Runs.{promise}
use Rattle.resampling.specs.Seen.{sheet_of, call_of}
use Rattle.resampling.proofs.Stands.{extends, upholds, first_refused, second_refused, joined_two, where_granted, where_refused, window_laid, window_kept}
use Rattle.resampling.proofs.resample.resample_window.Goals as goal

pub returns : goal.returns
unfolding answer_of
returns g c =
    let p = c.args.plan.now in
    let n = c.args.sheet.now.numbers in
    let xs = elements_mut c.args.sheet.now in
    let r = c.resample_part.result in
    let b = c.args.part in
    let size = g.T.Element.BYTES in
    let deep = g.T.Element.NEEDS_DEPTH in
    let call = call_of (g.F.KernelFamily.meaning p.family) p (part b.x b.y b.width b.height) c.args.source.now c.args.work.now c.args.first.now c.args.second.now in
    let ok = c.in_ok-validate.ensures in
    let cut = target_cut _ n _ c.size.result b c.part-numbers.result ok c.size.ensures c.in_ok-check.ensures c.part-numbers.ensures in
    let off = b.y * c.part-numbers.result.stride + b.x * c.part-numbers.result.channels in
    let k = length xs - off in
    let long : length (take k (drop off xs)) ≡ k = length-take-le k (drop off xs) (omega (arith, length-drop off xs)) in
    let rest : length (take k (drop off xs)) ≡ length xs - place n b.x b.y = long ∙ ap (λ (v : ℕ). length xs - v) cut.begins in
    let told = joined_two _ _ _ _ ok (rw c.size.ensures at c.in_ok-check.ensures)
    (c.resample_part.ensures.reply ∙ (λ i. resample_answer size deep (asked call n (length xs)) (cut.numbers i) (rest i))) in
    let s = sheet_of c.args.sheet.now in
    let kept : k ≡ length c.resample_part.new.buffer = search rules in
    let depth : c.part-numbers.result.bit_depth ≡ n.bit_depth = ap (λ (v : Numbers). v.bit_depth) cut.numbers in
    let st = answered_step size deep call s _ (reply r) (g.met.F.KernelFamily.shaped p.family) told refl
    (λ ok. window_laid n c.part-numbers.result xs _ (plan_value call n.bit_depth) b off k cut.numbers cut.begins refl kept
    (where_granted r _ _ _ c.resample_part.ensures.after ok ∙ ap (λ v. laid c.part-numbers.result (plan_value call v) (take k (drop off xs))) depth))
    (λ no. window_kept off k xs _ (where_refused r _ _ _ c.resample_part.ensures.after no)) in
    record {
      step = st;
      past = extends size deep call s _ (reply r) st;
      upheld = upholds size deep call s _ (reply r) st;
      promise = promise _;
      place = refl;
      kept = c.resample_part.ensures.kept;
    }

pub returns-in_err-validate : goal.returns-in_err-validate
unfolding answer_of
returns-in_err-validate g c =
    let p = c.args.plan.now in
    let f = c.in_err-validate.field-0.0 in
    let b = c.args.part in
    let call = call_of (g.F.KernelFamily.meaning p.family) p (part b.x b.y b.width b.height) c.args.source.now c.args.work.now c.args.first.now c.args.second.now in
    let s = sheet_of c.args.sheet.now in
    let st = refused_step g.T.Element.BYTES g.T.Element.NEEDS_DEPTH call s s (number_of f) (values_of f) (first_refused _ _ _ _ c.in_err-validate.ensures) refl refl in
    let q = err_from_is_err_and c.from_residual.result c.from_residual.ensures.1 in
    rw (q.1, q.2) (record {
      step = st;
      past = extends _ _ call s s _ st;
      upheld = upholds _ _ call s s _ st;
      promise = promise _;
      place = refl;
      kept = λ e. (refl, refl, refl);
    })

pub returns-in_err-check : goal.returns-in_err-check
unfolding answer_of
returns-in_err-check g c =
    let p = c.args.plan.now in
    let f = c.in_err-check.field-0.0 in
    let b = c.args.part in
    let call = call_of (g.F.KernelFamily.meaning p.family) p (part b.x b.y b.width b.height) c.args.source.now c.args.work.now c.args.first.now c.args.second.now in
    let s = sheet_of c.args.sheet.now in
    let st = refused_step g.T.Element.BYTES g.T.Element.NEEDS_DEPTH call s s (number_of f) (values_of f) (second_refused _ _ _ _ _ c.in_ok-validate.ensures (rw c.size.ensures at c.in_err-check.ensures)) refl refl in
    let q = err_from_is_err_and c.from_residual-in_err-check.result c.from_residual-in_err-check.ensures.1 in
    rw (q.1, q.2) (record {
      step = st;
      past = extends _ _ call s s _ st;
      upheld = upholds _ _ call s s _ st;
      promise = promise _;
      place = refl;
      kept = λ e. (refl, refl, refl);
    })

pub overflow_mul-offset : goal.overflow_mul-offset
overflow_mul-offset g c =
    let p = target_cut _ _ _ c.size.result c.args.part c.part-numbers.result c.in_ok-validate.ensures c.size.ensures c.in_ok-check.ensures c.part-numbers.ensures in
    search rules

pub overflow_mul-offset-2 : goal.overflow_mul-offset-2
overflow_mul-offset-2 g c =
    let p = target_cut _ _ _ c.size.result c.args.part c.part-numbers.result c.in_ok-validate.ensures c.size.ensures c.in_ok-check.ensures c.part-numbers.ensures in
    search rules

pub overflow_add-offset : goal.overflow_add-offset
overflow_add-offset g c =
    let p = target_cut _ _ _ c.size.result c.args.part c.part-numbers.result c.in_ok-validate.ensures c.size.ensures c.in_ok-check.ensures c.part-numbers.ensures in
    search rules

pub offset_bounds-sheet-offset : goal.offset_bounds-sheet-offset
offset_bounds-sheet-offset g c =
    let p = target_cut _ _ _ c.size.result c.args.part c.part-numbers.result c.in_ok-validate.ensures c.size.ensures c.in_ok-check.ensures c.part-numbers.ensures in
    scaled_fits≤ _ (length (elements_mut c.args.sheet.now)) _ (rw p.begins p.lies.begins) (search rules)

pub slice_bounds-resample_part-count : goal.slice_bounds-resample_part-count
slice_bounds-resample_part-count g c =
    let p = target_cut _ _ _ c.size.result c.args.part c.part-numbers.result c.in_ok-validate.ensures c.size.ensures c.in_ok-check.ensures c.part-numbers.ensures in
    search rules

pub slice_bounds-resample_part-start : goal.slice_bounds-resample_part-start
slice_bounds-resample_part-start g c =
    let p = target_cut _ _ _ c.size.result c.args.part c.part-numbers.result c.in_ok-validate.ensures c.size.ensures c.in_ok-check.ensures c.part-numbers.ensures in
    search rules
