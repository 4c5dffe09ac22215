use Rattle.std.proofs.Common.{ap, ◌∙◌, arith}
use Rattle.image.specs.Rows.{joined}
use Rattle.lines.specs.Joins.{fronted_none, fronted_more, fronted_all}
use Rattle.lines.specs.OfLines.{outputs_columns}
use Rattle.lines.proofs.lines.LinesKernelFamily.run_on_column.Goals as goal

pub loop-j-init : goal.loop-j-init
loop-j-init g c = fronted_none _ _

pub loop-j-preserved : goal.loop-j-preserved
loop-j-preserved g c =
    fronted_more _ c.args.dst.now c.loop-j.dst c.loop-j.j c.element.result c.loop-j-test.true c.loop-j.auto.dst c.loop-j.invariant c.element.ensures

pub returns : goal.returns
returns g c =
    let r = c.args.src.now in
    fronted_all _ c.args.dst.now c.loop-j.dst c.loop-j.j c.loop-j-test.false c.loop-j.auto.j-end c.loop-j.invariant
    ∙ (ap (joined _) (omega arith)
    ∙ outputs_columns g.K.LineKernel.value g.met.K.LineKernel.one r.elements.now r.row_length r.stride r.height c.args.options.dst_size.height c.args.row (omega arith) r.fit.within)
