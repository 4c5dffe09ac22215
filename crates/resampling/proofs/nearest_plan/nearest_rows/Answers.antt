use Rattle.std.proofs.Common.{◌*◌, length, arith, rules}
use Rattle.image.proofs.Strides.{row_fits}
use Rattle.resampling.proofs.nearest_plan.nearest_rows.Goals as goal

pub offset_bounds-dst-to : goal.offset_bounds-dst-to
offset_bounds-dst-to g c =
    let w = row_fits c.loop-y.y c.args.target.height c.args.dst_stride (c.args.target.width * c.args.channels) (length c.loop-y.dst) (omega arith) (omega arith) in
    search rules
