use Rattle.std.proofs.Common.{◌≡◌, ℕ, zero, suc, ◌-◌, ◌*◌, ◌<◌, List, [], ◌∷◌, Bor, length, ap, ◌∙◌, arith}
use Rattle.image.specs.Rows.{row}
use Rattle.image.specs.Images.{image_of}
use Rattle.image.proofs.RowsOf.{painted_same}
use Rattle.image.proofs.Strides.{row_fits}
use Rattle.lines.specs.Along.{lent, pixel}
use Rattle.lines.specs.Joins.{joined_none, joined_more}
use Rattle.lines.specs.OfLines.{row_even, pixel_fits, length-pixel, length_pixels}
use Rattle.lines.proofs.Grown.{painted_empty, painted_grown}
use Rattle.lines.proofs.lines.four_rows_of_pixels.Goals as goal

-- four rows that were fetched, by their number
fetched : {X : Type 0} (im : List (List X)) (a b c d : Bor (List X)) (i : ℕ) → i < 4 → a.now ≡ row im 0 → b.now ≡ row im 1 → c.now ≡ row im 2 → d.now ≡ row im 3 → row (lent (a ∷ b ∷ c ∷ d ∷ [])) i ≡ row im i
fetched im a b c d zero l p q r s = p
fetched im a b c d (suc zero) l p q r s = q
fetched im a b c d (suc (suc zero)) l p q r s = r
fetched im a b c d (suc (suc (suc zero))) l p q r s = s
fetched im a b c d (suc (suc (suc (suc i)))) l p q r s = absurd (omega arith)

pub loop-x-init : goal.loop-x-init
loop-x-init g c = painted_empty _ _ _ 4 (λ i. joined_none _)

pub loop-x-preserved : goal.loop-x-preserved
loop-x-preserved g c =
    let r = c.args.src.now in
    let n = c.args.axis.now.source in
    let m = c.args.axis.now.target in
    let k = g.row.N in
    let s = c.args.dst_stride in
    let x = c.loop-x.x in
    let value = g.K.LineKernel.value in
    let one = g.met.K.LineKernel.one in
    let some = c.args.axis.now.lengths.0.0 in
    let fits = pixel_fits x m k c.loop-x-test.true in
    let source : (i : ℕ) → i < 4 → length (row (image_of r) i) ≡ n * k = λ i l. row_even r i (omega arith) ∙ c.requires.source.0 in
    let written = c.pixels_of_4_rows.ensures
    ∙ painted_same _ s _ (λ i. pixel value (row (image_of r) i) k n m x) 4 (λ i l. ap (λ (xs : List g.row.T.Denot). pixel value xs k n m x) (fetched (image_of r) c.row.result c.row-2.result c.row-3.result c.row-4.result i l c.row.ensures.row c.row-2.ensures.row c.row-3.ensures.row c.row-4.ensures.row)) in
    painted_grown c.args.dst.now s (x * k) k _ _ (omega (arith, fits, c.requires.target.apart)) c.loop-x.dst c.pixels_of_4_rows.new.dst (length c.loop-x.dst - x * k) 4 _ c.loop-x.invariant written (omega (arith, fits, c.loop-x.auto.dst, c.requires.target.within))
    (λ i l. record {
      begun = length_pixels value one _ k n m x some (source i l);
      more = length-pixel value one _ k n m x some (source i l);
      within = omega (arith, fits, row_fits i 4 s (m * k) (length c.args.dst.now) l c.requires.target.within);
    })
    (λ i. joined_more _ x)
