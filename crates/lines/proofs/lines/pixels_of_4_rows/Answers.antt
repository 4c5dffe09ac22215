use Rattle.std.proofs.Common.{◌≤◌, List, [], Bor, length, refl, sym, ap, ◌∙◌, lt_of_le_of_lt, mul-le-mul_right, arith, rules}
use Rattle.std.proofs.lemmas.List.{get_or-map}
use Rattle.image.proofs.Paint.{painted_none, painted_more}
use Rattle.image.proofs.Strides.{row_fits}
use Rattle.lines.specs.Along.{pixel}
use Rattle.lines.specs.OfLines.{packed}
use Rattle.lines.proofs.lines.pixels_of_4_rows.Goals as goal

pub loop-i-init : goal.loop-i-init
loop-i-init g c = painted_none _ _ _

pub pixel_of_row-pixel-requires : goal.pixel_of_row-pixel-requires
pixel_of_row-pixel-requires g c =
    let is = get_or-map (λ (r : Bor (List g.row.T.Denot)). r.now) c.args.rows.now c.loop-i.i c.index-rows-i.result [] (omega arith) in
    let long = ap length (sym is) ∙ c.requires.source c.loop-i.i (omega arith) in
    let few : g.row.N ≤ length c.index-rows-i.result.now = omega (arith, ap (λ (r : Bor (List g.row.T.Denot)). length r.now) c.index-rows-i.is, packed c.args.axis.now.source g.row.N c.args.axis.now.lengths.0.0, long) in
    (lt_of_le_of_lt (mul-le-mul_right _ few) (search rules), (c.requires.place, (c.requires.output, (c.requires.channels, long))))

pub offset_bounds-dst-to : goal.offset_bounds-dst-to
offset_bounds-dst-to g c =
    let w = row_fits c.loop-i.i 4 c.args.dst_stride g.row.N (length c.loop-i.dst) (omega arith) (omega arith) in
    search rules

pub loop-i-preserved : goal.loop-i-preserved
loop-i-preserved g c =
    painted_more c.args.dst.now c.loop-i.dst c.copy_from_slice.new.self c.args.dst_stride c.loop-i.i _ _ _ c.loop-i.invariant refl
    (c.copy_from_slice.ensures.after
    ∙ (c.pixel_of_row-pixel.ensures ∙ ap (λ (xs : List g.row.T.Denot). pixel g.K.LineKernel.value xs g.row.N c.args.axis.now.source c.args.axis.now.target c.args.x) (sym (get_or-map _ _ c.loop-i.i _ [] (omega arith)))))
    (search rules)
