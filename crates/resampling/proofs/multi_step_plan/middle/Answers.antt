use Rattle.std.proofs.Common.{◌≡◌, ◌+◌, cond, not, length, get_or, take, drop, sym, ap, ◌∙◌, subst, arith, rules}
use Rattle.std.proofs.lemmas.List.{drop_more}
use Rattle.image.specs.declared.image_size.ImageSize.{ImageSize}
use Rattle.planner.specs.Chains.{Linked}
use Rattle.planner.specs.Plans.{area}
use Rattle.values.specs.Values.{stage_value, composed}
use Rattle.resampling.specs.Running.{packed, end_of}
use Rattle.resampling.proofs.Chained.{blank, end_more}
use Rattle.resampling.proofs.multi_step_plan.middle.Goals as goal

pub loop-stage-preserved : goal.loop-stage-preserved
loop-stage-preserved g c =
    let k = c.args.settings.now.channels in
    let d = c.args.settings.now.depth in
    let m = g.F.KernelFamily.meaning c.args.settings.now.family.now in
    let xs = c.args.stages.now in
    let i = c.loop-stage.stage-index in
    let st = get_or xs i blank in
    let e = drop_more xs i blank c.loop-stage-test.true in
    let here : end_of c.args.start (take (i + 1) xs) ≡ st.target = end_more c.args.start xs i blank c.loop-stage-test.true in
    let linked = rw e at c.loop-stage.invariant.0 in
    let ready = rw e at c.loop-stage.invariant.2 in
    let room = rw e at c.loop-stage.invariant.3 in
    let value = rw e at c.loop-stage.invariant.4 in
    let f : length c.turn.new.first ≡ length c.loop-stage.first = search rules in
    let s : length c.turn.new.second ≡ length c.loop-stage.second = search rules in
    let w : length c.turn.new.work ≡ length c.loop-stage.work = search rules in
    let from = ap (λ (z : ImageSize). packed k z (cond c.loop-stage.flipped c.loop-stage.second c.loop-stage.first)) linked.0 in (
      subst (λ (z : ImageSize). Linked z (end_of c.args.start xs) (drop (i + 1) xs)) (sym here) linked.1,
      (omega (arith, room.0.0, f, ap (area k) here), omega (arith, room.1.0, s, ap (area k) here)),
      rw w ready.1,
      (rw f room.0.1, rw s room.1.1),
      ap (λ (z : ImageSize). composed m k d (drop (i + 1) xs) (packed k z (cond (not c.loop-stage.flipped) c.turn.new.second c.turn.new.first))) here
          ∙ (ap (composed m k d (drop (i + 1) xs)) (c.turn.ensures ∙ ap (stage_value m k d st) from) ∙ value),
    )
