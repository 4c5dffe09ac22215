use Rattle.std.proofs.Common.{◌≡◌, ℕ, ◌+◌, ◌-◌, ◌*◌, ◌<◌, ◌≤◌, cond, ltb, length, refl, ap, ◌∙◌, mul-le-mul_right, add-mul, arith, length-drop, length-take, rules}
use Rattle.std.proofs.lemmas.Bool.Decides.{nat_tests}
use Rattle.image.specs.Images.{image_of}
use Rattle.image.specs.Rows.{painted}
use Rattle.image.proofs.Painted.{painted_batch}
use Rattle.image.proofs.Strides.{row_fits}
use Rattle.convolution.specs.Meaning.{source_row, target_row}
use Rattle.resampling.specs.Runs.{both_row}
use Rattle.resampling.proofs.Packed.{source_sized}
use Rattle.resampling.proofs.Runs.{both_run, both_even}
use Rattle.resampling.proofs.run.Run.trampoline_filter.Goals as goal

-- the last of four rows from row y on lies within the buffer
last_of_four : (y h s n size : ℕ) → y + 4 ≤ h → s * (h - 1) + n ≤ size → y * s + 3 * s + n ≤ size
last_of_four y h s n size b fits = omega (arith, row_fits (y + 3) h s n size (omega arith) fits, add-mul y 3 s)

-- each of four rows lies within what four take
each_of_four : (i s n k size : ℕ) → i < 4 → n ≡ k → 3 * s + k ≤ size → i * s + n ≤ size
each_of_four i s n k size l e h = let le : i * s ≤ 3 * s = mul-le-mul_right s (omega arith) in omega arith

-- from a height of four on the work buffer has room for four rows
four_rows : (n h size : ℕ) → 4 ≤ h → n * cond (ltb h 4) 1 4 ≤ size → 4 * n ≤ size
four_rows n h size l fits =
    let e : ◌≡◌ {A = ℕ} (cond (ltb h 4) 1 4) 4 = grind (arith, nat_tests) in
    omega (arith, ap (λ (z : ℕ). n * z) e)

pub filter_4_rows-requires-clause-target : goal.filter_4_rows-requires-clause-target
filter_4_rows-requires-clause-target g c =
    let o = c.args.self.now.options in
    let t = c.args.dst_stride in
    let far = last_of_four (4 * c.loop-batch.batch) o.dst_size.height t (target_row o) (length c.loop-batch.dst) (omega arith) (omega arith) in
    record { apart = c.requires.target.apart; within = simp (length-take, length-drop) (omega arith) }

pub loop-batch-preserved : goal.loop-batch-preserved
loop-batch-preserved g c =
    let o = c.args.self.now.options in
    let t = c.args.dst_stride in
    let y = 4 * c.loop-batch.batch in
    let rows = both_row (g.F.KernelFamily.meaning c.args.self.now.family.now) o (image_of c.args.self.now.src.now) in
    let far = last_of_four y o.dst_size.height t (target_row o) (length c.loop-batch.dst) (omega arith) (omega arith) in
    let even = both_even (g.F.KernelFamily.meaning c.args.self.now.family.now) o (image_of c.args.self.now.src.now) (g.met.F.KernelFamily.shaped c.args.self.now.family.now) c.args.self.now.ready.source_height.0 (source_sized c.args.self.now.src.now (source_row o) o.src_size.height c.args.self.now.source.width c.args.self.now.source.height) c.args.self.now.ready.source_width.0 in
    painted_batch c.args.dst.now c.loop-batch.dst c.filter_4_rows.new.dst t y (y * t) _ 4 rows (λ i. rows (y + i)) c.loop-batch.invariant refl c.filter_4_rows.ensures (omega arith)
    (λ i l. each_of_four i t _ (target_row o) _ l (even (y + i)) (omega arith))
    (λ i l. refl)
    ∙ ap (painted c.args.dst.now t rows) (omega arith)

pub returns : goal.returns
returns g c =
    let o = c.args.self.now.options in
    let m = g.F.KernelFamily.meaning c.args.self.now.family.now in
    let im = image_of c.args.self.now.src.now in
    let all : c.loop-y.y ≡ o.dst_size.height = omega arith in
    c.loop-y.invariant
    ∙ (ap (painted c.args.dst.now c.args.dst_stride (both_row m o im)) all
    ∙ both_run m o im c.args.dst.now c.args.dst_stride)

pub offset_bounds-dst-y : goal.offset_bounds-dst-y
offset_bounds-dst-y g c =
    let w = row_fits (4 * c.loop-batch.batch) c.args.self.now.options.dst_size.height c.args.dst_stride (target_row c.args.self.now.options) (length c.loop-batch.dst) (omega arith) (omega arith) in
    search rules

pub slice_bounds-filter_4_rows-count : goal.slice_bounds-filter_4_rows-count
slice_bounds-filter_4_rows-count g c =
    let w = row_fits (4 * c.loop-batch.batch) c.args.self.now.options.dst_size.height c.args.dst_stride (target_row c.args.self.now.options) (length c.loop-batch.dst) (omega arith) (omega arith) in
    search rules

pub slice_bounds-filter_4_rows-start : goal.slice_bounds-filter_4_rows-start
slice_bounds-filter_4_rows-start g c =
    let w = row_fits (4 * c.loop-batch.batch) c.args.self.now.options.dst_size.height c.args.dst_stride (target_row c.args.self.now.options) (length c.loop-batch.dst) (omega arith) (omega arith) in
    search rules

pub offset_bounds-dst-to : goal.offset_bounds-dst-to
offset_bounds-dst-to g c =
    let w = row_fits c.loop-y.y c.args.self.now.options.dst_size.height c.args.dst_stride (target_row c.args.self.now.options) (length c.loop-y.dst) (omega arith) (omega arith) in
    search rules
