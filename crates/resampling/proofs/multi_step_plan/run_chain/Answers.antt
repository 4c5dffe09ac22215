use Rattle.std.proofs.Common.{◌≡◌, ◌*◌, cond, [], ◌∷◌, length, sym, ap, ◌∙◌, arith, length-take-le}
use Rattle.image.specs.Images.{image_of}
use Rattle.image.specs.Rows.{row, painted}
use Rattle.image.specs.declared.image_size.ImageSize.{ImageSize}
use Rattle.planner.specs.Plans.{area}
use Rattle.values.specs.Values.{stage_value, composed}
use Rattle.resampling.specs.Running.{packed}
use Rattle.resampling.proofs.Packed.{exact_area, packed_fits, stage_packed}
use Rattle.resampling.proofs.Chained.{linked_end, composed_append, rows_take, either_long}
use Rattle.resampling.proofs.multi_step_plan.run_chain.Goals as goal

pub returns : goal.returns
returns g c =
    let k = c.args.settings.now.channels in
    let d = c.args.settings.now.depth in
    let m = g.F.KernelFamily.meaning c.args.settings.now.family.now in
    let h = c.args.head in
    let t = c.args.tail.source in
    let sts = c.args.inner.now in
    let src = image_of c.args.src.now in
    let buffer = cond c.middle-flipped.result c.middle-flipped.new.second c.middle-flipped.new.first in
    let ends = linked_end h.target t sts c.requires.linked in
    let began : packed k h.target c.run_stage.new.dst ≡ stage_value m k d h src =
    stage_packed m k d (g.met.F.KernelFamily.shaped c.args.settings.now.family.now) h c.args.src.now c.args.first.now c.run_stage.new.dst c.requires.ready.0.sized c.requires.source c.requires.first.0 c.run_stage.ensures in
    let e = exact_area k t c.elements-len.result c.requires.ready.2.sized.source c.requires.ready.0.few_channels c.elements-len.ensures in
    let fits = packed_fits k t c.elements-len.result c.requires.ready.2.sized.source.1.0 (omega arith) in
    let last : image_of c.packed_rows-half.result ≡ composed m k d sts (stage_value m k d h src) =
    c.packed_rows-half.ensures.image
    ∙ (ap (packed k t) c.written.ensures
    ∙ (rows_take buffer (t.width * k) (t.width * k) t.height _ fits.within
    ∙ (ap (λ (z : ImageSize). packed k z buffer) (sym ends)
    ∙ (c.middle-flipped.ensures.value ∙ ap (composed m k d sts) began)))) in
    c.run_stage-2.ensures
    ∙ ap (λ im. painted c.args.dst.now c.args.dst_stride (row im) c.args.tail.target.height)
    (ap (stage_value m k d c.args.tail) last ∙ sym (composed_append m k d sts (c.args.tail ∷ []) (stage_value m k d h src)))

pub written-requires : goal.written-requires
written-requires g c =
    let k = c.args.settings.now.channels in
    let t = c.args.tail.source in
    let e = exact_area k t c.elements-len.result c.requires.ready.2.sized.source c.requires.ready.0.few_channels c.elements-len.ensures in
    let ends = ap (area k) (linked_end c.args.head.target t c.args.inner.now c.requires.linked) in
    let room = c.middle-flipped.ensures.room in
    either_long c.middle-flipped.result c.middle-flipped.new.first c.middle-flipped.new.second c.elements-len.result (omega (arith, room.0)) (omega (arith, room.1))

pub packed_rows-half-requires-clause-held : goal.packed_rows-half-requires-clause-held
packed_rows-half-requires-clause-held g c =
    let k = c.args.settings.now.channels in
    let t = c.args.tail.source in
    let e = exact_area k t c.elements-len.result c.requires.ready.2.sized.source c.requires.ready.0.few_channels c.elements-len.ensures in
    let ends = ap (area k) (linked_end c.args.head.target t c.args.inner.now c.requires.linked) in
    let room = c.middle-flipped.ensures.room in
    let long = either_long c.middle-flipped.result c.middle-flipped.new.first c.middle-flipped.new.second c.elements-len.result (omega (arith, room.0)) (omega (arith, room.1)) in
    let all = ap length c.written.ensures ∙ length-take-le _ _ long in
    omega (arith, all)
