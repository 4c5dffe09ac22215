use Rattle.std.proofs.Common.{replicate, arith}
use lib.ListN.{length-replicate}
use Rattle.lines.specs.Joins.{fronted_none, fronted_more}
use Rattle.lines.proofs.lines.pixel_of_row.Goals as goal

pub loop-k-init : goal.loop-k-init
loop-k-init g c = fronted_none _ _

pub loop-k-preserved : goal.loop-k-preserved
loop-k-preserved g c =
    let start = length-replicate g.row.N c.index-row-0.result in
    fronted_more _ (replicate g.row.N c.index-row-0.result) c.loop-k.out-items c.loop-k.k c.element.result (omega (arith, start, c.loop-k-test.true)) (omega arith) c.loop-k.invariant c.element.ensures
