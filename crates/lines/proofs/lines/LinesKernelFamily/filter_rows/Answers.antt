use Rattle.std.proofs.Common.{◌≡◌, ℕ, ◌+◌, ◌-◌, ◌*◌, ◌/◌, ◌<◌, ◌≤◌, List, [], take, drop, length, refl, ap, ◌∙◌, get_or-take, get_or-drop, add-mul, arith, length-drop, length-take, rules}
use borrow.Rule.Slice.PartMut.{put_mid}
use Rattle.image.specs.Rows.{RowsFit, part, row, painted}
use Rattle.image.specs.Images.{image_of}
use Rattle.image.specs.declared.source_rows.SourceRows.{SourceRows}
use Rattle.image.proofs.Paint.{painted_none, painted_more}
use Rattle.image.proofs.Painted.{painted_batch}
use Rattle.image.proofs.Strides.{row_fits}
use Rattle.convolution.specs.Meaning.{Meaning, Shaped, source_row, target_row, row_value}
use Rattle.convolution.specs.declared.convolution.ConvolutionOptions.{ConvolutionOptions}
use Rattle.lines.specs.Lines.{line_meaning}
use Rattle.lines.specs.OfLines.{last_of_four, row_even, row_value_part, line_shaped}
use Rattle.lines.proofs.lines.LinesKernelFamily.filter_rows.Goals as goal
use Rattle.lines.proofs.lines.LinesKernelFamily.filter_rows.Goals.{else-loop-y-test, then-loop-y-test+else-whole-y-gt4}

module _ {X : Type 0} (m : Meaning X) (shaped : Shaped m) (o : ConvolutionOptions) (r : SourceRows X) (s : ℕ) where
  -- the four rows from row y on, painted into what follows row y's place
  four_more : (dst0 dst ys : List X) (y : ℕ) → 0 < o.src_size.width → r.row_length ≡ source_row o → RowsFit (target_row o) s r.height (length dst0) → y + 4 ≤ r.height → length dst ≡ length dst0 → dst ≡ painted dst0 s (row_value m o (image_of r)) y → ys ≡ painted (part (y * s) (length dst - y * s) dst) s (row_value m o (take 4 (drop y (image_of r)))) 4 → put_mid (y * s) (length dst - y * s) dst ys ≡ painted dst0 s (row_value m o (image_of r)) (y + 4)
  four_more dst0 dst ys y some wide fits below long was is =
      let im = image_of r in
      let here : (i : ℕ) → i < 4 → row (take 4 (drop y im)) i ≡ row im (y + i) = λ i l. get_or-take 4 (drop y im) i [] l ∙ get_or-drop y im i [] in
      let even : (i : ℕ) → i < 4 → length (row (take 4 (drop y im)) i) ≡ source_row o = λ i l. ap length (here i l) ∙ (row_even r (y + i) (omega arith) ∙ wide) in
      let last = row_fits y r.height s (target_row o) (length dst0) (omega arith) fits.within in
      painted_batch dst0 dst ys s y (y * s) (length dst - y * s) 4 _ _ was refl is (omega arith)
      (λ i l. omega (arith, add-mul y i s, row_fits (y + i) r.height s (target_row o) (length dst0) (omega arith) fits.within, shaped.across_length o.function o.channels o.src_size.width _ o.dst_size.width o.bit_depth some (even i l)))
      (λ i l. row_value_part m o im y 4 i l)

pub loop-y-init : goal.loop-y-init
loop-y-init g c = (omega arith, (refl, painted_none _ _ _))

pub offset_bounds-dst-to : goal.offset_bounds-dst-to
offset_bounds-dst-to g c =
    let w = row_fits c.loop-y.y c.args.src.now.height c.args.dst_stride (target_row c.args.options) (length c.loop-y.dst) (omega arith) (omega arith) in
    search rules

pub run_on_4_rows-requires-clause-target : goal.run_on_4_rows-requires-clause-target
run_on_4_rows-requires-clause-target g c =
    let s = c.args.dst_stride in
    let y = c.loop-y.y in
    let w = last_of_four y c.args.src.now.height s (target_row c.args.options) (length c.loop-y.dst) (omega arith) (omega arith) in
    record { apart = c.requires.target.apart; within = simp (length-take, length-drop) (omega (arith, w)) }

pub loop-y-preserved : goal.loop-y-preserved
loop-y-preserved g c = (
  omega arith,
  (
    omega arith,
    four_more (line_meaning g.K.LineKernel.knows g.K.LineKernel.value) (line_shaped g.K.LineKernel.value g.met.K.LineKernel.one g.K.LineKernel.knows) c.args.options c.args.src.now c.args.dst_stride c.args.dst.now c.loop-y.dst c.run_on_4_rows.new.dst c.loop-y.y c.requires.ready.source_width.0 c.requires.source c.requires.target (omega arith) c.loop-y.auto.dst c.loop-y.invariant.1.1
        (c.run_on_4_rows.ensures ∙ ap (λ (im : List (List g.row.T.Denot)). painted (part (c.loop-y.y * c.args.dst_stride) (length c.loop-y.dst - c.loop-y.y * c.args.dst_stride) c.loop-y.dst) c.args.dst_stride (row_value (line_meaning g.K.LineKernel.knows g.K.LineKernel.value) c.args.options im) 4) c.part.ensures.image),
  ),
)

pub loop-y-2-init : goal.loop-y-2-init
loop-y-2-init g c =
    let whole = c.args.src.now.height / 4 * 4 in
    let v = row_value (line_meaning g.K.LineKernel.knows g.K.LineKernel.value) c.args.options (image_of c.args.src.now) in
    elim c.loop-y-test.branch [
      | else-loop-y-test w ↦ w.dst-is ∙ (c.loop-y.invariant.1.1 ∙ ap (painted c.args.dst.now c.args.dst_stride v) (omega (arith, c.loop-y.invariant.0, w.loop-y-test)))
      | then-loop-y-test+else-whole-y-gt4 w ↦ w.dst-is ∙ (four_more (line_meaning g.K.LineKernel.knows g.K.LineKernel.value) (line_shaped g.K.LineKernel.value g.met.K.LineKernel.one g.K.LineKernel.knows) c.args.options c.args.src.now c.args.dst_stride c.args.dst.now c.loop-y.dst w.run_on_4_rows.new.dst c.loop-y.y c.requires.ready.source_width.0 c.requires.source c.requires.target (omega arith) c.loop-y.auto.dst c.loop-y.invariant.1.1
          (w.run_on_4_rows.ensures ∙ ap (λ (im : List (List g.row.T.Denot)). painted (part (c.loop-y.y * c.args.dst_stride) (length c.loop-y.dst - c.loop-y.y * c.args.dst_stride) c.loop-y.dst) c.args.dst_stride (row_value (line_meaning g.K.LineKernel.knows g.K.LineKernel.value) c.args.options im) 4) w.part.ensures.image) ∙ ap (painted c.args.dst.now c.args.dst_stride v) (omega arith))
    ]

pub offset_bounds-dst-to-in-loop-y-2 : goal.offset_bounds-dst-to-in-loop-y-2
offset_bounds-dst-to-in-loop-y-2 g c =
    let w = row_fits c.loop-y-2.y c.args.src.now.height c.args.dst_stride (target_row c.args.options) (length c.loop-y-2.dst) c.loop-y-2-test.true (omega arith) in
    search rules

pub loop-y-2-preserved : goal.loop-y-2-preserved
loop-y-2-preserved g c =
    painted_more c.args.dst.now c.loop-y-2.dst c.run_on_row.new.dst c.args.dst_stride c.loop-y-2.y _ _ _ c.loop-y-2.invariant refl (search rules) (search rules)
