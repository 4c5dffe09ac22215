use Rattle.std.proofs.Common.{◌≡◌, sym, ◌∙◌, rules}
use Rattle.image.specs.Refusals.{reply}
use Rattle.image.specs.Refusals.Answer.{granted}
use Rattle.image.specs.Stores.{elements_mut}
use Rattle.resampling.proofs.Stands.{where_granted}
use Rattle.order.specs.Packed.{packed_numbers, plan_pixels}
use Rattle.order.proofs.Passes.{packed_granted, packed_laid}
use Rattle.order.proofs.resizing.run_order.Goals as goal

pub returns : goal.returns
returns g c =
    let p = c.args.plan.now in
    let m = g.F.KernelFamily.meaning p.family in
    let src = c.args.source.now in
    let xs = c.args.pixels.now in
    let w = c.args.work.now in
    let a = c.args.first.now in
    let b = c.args.second.now in
    let call = c.resample_with_scratch in
    let from : c.packed.result ≡ packed_numbers p.channels p.source_size = c.packed.ensures ∙ (λ i. packed_numbers (c.channels.ensures i) (c.source_size.ensures i)) in
    let to : c.packed-2.result ≡ packed_numbers p.channels p.target_size = c.packed-2.ensures ∙ (λ i. packed_numbers (c.channels-2.ensures i) (c.target_size.ensures i)) in
    let r = c.requires in
    let ok : granted ≡ reply call.result = packed_granted m p src xs w a b c.packed.result c.packed-2.result from to r.source r.target r.work r.halves.0 r.halves.1 ∙ sym call.ensures.step.answered in
    let laid : elements_mut call.new.sheet ≡ plan_pixels m p src =
    where_granted call.result _ _ _ call.ensures.after ok ∙ packed_laid m p src xs w a b c.packed.result c.packed-2.result from to r.source r.target (g.met.F.KernelFamily.shaped p.family) in
    record { reply = ok; after = search (rules, laid) }
