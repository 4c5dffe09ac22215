use Rattle.std.proofs.Common.{length, refl, arith, rules}
use Rattle.image.proofs.Strides.{row_fits}
use Rattle.image.proofs.Paint.{painted_none, painted_more}
use Rattle.convolution.specs.Meaning.{target_row}
use Rattle.convolution.proofs.convolution.KernelFamily.filter_rows.Goals as goal

pub loop-y-init : goal.loop-y-init
loop-y-init g c = painted_none _ _ _

pub loop-y-preserved : goal.loop-y-preserved
loop-y-preserved g c =
    painted_more c.args.dst.now c.loop-y.dst c.run_on_row.new.dst c.args.dst_stride c.loop-y.y _ _ _ c.loop-y.invariant refl (search rules) (search rules)

pub offset_bounds-dst-to : goal.offset_bounds-dst-to
offset_bounds-dst-to g c =
    let w = row_fits c.loop-y.y c.args.src.now.height c.args.dst_stride (target_row c.args.options) (length c.loop-y.dst) c.loop-y-test.true (omega arith) in
    search rules
