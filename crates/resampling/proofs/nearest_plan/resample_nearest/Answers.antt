use Rattle.std.proofs.Common.{◌≡◌, sym, refl, ◌∙◌}
use Rattle.image.specs.Rows.{row, painted}
use Rattle.image.specs.Stores.{elements, elements_mut, laid}
use Rattle.image.proofs.Granted.{source_sound, target_sound, exact_pitch}
use Rattle.image.proofs.Copied.{laid_by}
use Rattle.values.specs.Nearest.{nearest_image, nearest_pixels}
use Rattle.resampling.proofs.Sampled.{between, sampled_on}
use Rattle.resampling.proofs.nearest_plan.resample_nearest.Given.{Over}
use Rattle.resampling.proofs.nearest_plan.resample_nearest.Goals as goal

after : (g : Over) (c : goal.After-nearest_rows g) → c.nearest_rows.new.dst ≡ laid c.args.into.now.numbers (nearest_pixels c.args.into.now.numbers c.args.source.now.numbers (elements c.args.source.now)) (elements_mut c.args.into.now)
after g c =
    let d = c.args.into.now.numbers in
    let s = c.args.source.now.numbers in
    let a = target_sound _ _ _ c.in_ok-validate.ensures in
    c.nearest_rows.ensures
    ∙ (λ i. painted (elements_mut c.args.into.now) c.pitch.result (row (nearest_image s.channels (c.size.ensures i) (c.size-2.ensures i) (c.in_ok-rows.ensures.image i))) (c.size-2.ensures i).height)
    ∙ laid_by d _ _ _ _ (exact_pitch d _ _ a c.pitch.ensures) refl

pub returns-clause-after : goal.returns-clause-after
returns-clause-after g c = after g c

pub returns-clause-shown : goal.returns-clause-shown
returns-clause-shown g c =
    let d = c.args.into.now.numbers in
    let s = c.args.source.now.numbers in
    sampled_on d s _ _ _ (target_sound _ _ _ c.in_ok-validate.ensures) (source_sound _ _ _ c.in_ok-rows.ensures.reply) (between d s c.in_ok-check_between.ensures) (after g c)

pub nearest_rows-requires-clause-channels : goal.nearest_rows-requires-clause-channels
nearest_rows-requires-clause-channels g c = let b = source_sound _ _ _ c.in_ok-rows.ensures.reply in (b.some_channels, b.few_channels)

pub nearest_rows-requires-clause-sizes : goal.nearest_rows-requires-clause-sizes
nearest_rows-requires-clause-sizes g c =
    let a = target_sound _ _ _ c.in_ok-validate.ensures in
    let b = source_sound _ _ _ c.in_ok-rows.ensures.reply in
    let m = between c.args.into.now.numbers c.args.source.now.numbers c.in_ok-check_between.ensures in
    rw (c.size.ensures, c.size-2.ensures) (((b.some_width, m.source_width), (b.some_height, m.source_height)), ((a.some_width, m.target_width), (a.some_height, m.target_height)))

pub nearest_rows-requires-clause-written : goal.nearest_rows-requires-clause-written
nearest_rows-requires-clause-written g c =
    let d = c.args.into.now.numbers in
    let a = target_sound _ _ _ c.in_ok-validate.ensures in
    let m = between d c.args.source.now.numbers c.in_ok-check_between.ensures in
    let e = exact_pitch d _ _ a c.pitch.ensures in
    rw (e, c.size-2.ensures, sym m.channels) (record { apart = a.wide; within = a.fits })
