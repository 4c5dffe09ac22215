use Rattle.std.proofs.Common.{◌-◌, ◌*◌, length, drop, take_all, length-drop, arith, ap, ◌∙◌}
use Rattle.image.specs.Rows.{rows}
use Rattle.image.proofs.Strides.{rows_fit_from}
use Rattle.image.proofs.RowsOf.{rows_from}
use Rattle.image.proofs.source_rows.SourceRows.part.Goals as goal

pub invariant_of-result-2 : goal.invariant_of-result-2
invariant_of-result-2 g c =
    let r = c.args.self.now in
    let k = length r.elements.now - c.args.y * r.stride in
    let xs = drop (c.args.y * r.stride) r.elements.now in
    let long = ap length (take_all k xs (omega (arith, length-drop (c.args.y * r.stride) r.elements.now))) ∙ length-drop (c.args.y * r.stride) r.elements.now in
    let fits = rows_fit_from c.args.y r.height r.stride r.row_length c.args.count (length r.elements.now) c.if-y-self.false r.fit.within in
    record { fit = record { apart = r.fit.apart; within = rw (long, c.min.ensures) fits } }

pub returns-clause-image : goal.returns-clause-image
returns-clause-image g c =
    let r = c.args.self.now in
    let xs = drop (c.args.y * r.stride) r.elements.now in
    ap (λ ys. rows ys r.row_length r.stride c.min.result) (take_all (length r.elements.now - c.args.y * r.stride) xs (omega (arith, length-drop (c.args.y * r.stride) r.elements.now)))
    ∙ (ap (rows xs r.row_length r.stride) c.min.ensures ∙ rows_from r.elements.now r.row_length r.stride r.height c.args.y c.args.count c.if-y-self.false)
