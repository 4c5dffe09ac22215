use Rattle.std.proofs.Common.{◌+◌, length, ap, ◌∙◌, arith}
use Rattle.image.specs.Images.{image_of}
use Rattle.image.specs.Rows.{rows, painted}
use Rattle.convolution.specs.Meaning.{source_row, row_value}
use Rattle.resampling.proofs.Packed.{gapless, source_sized}
use Rattle.resampling.proofs.Runs.{across_packed}
use Rattle.resampling.proofs.run.Run.filter_4_rows.Goals as goal

pub returns : goal.returns
returns g c =
    let o = c.args.self.now.options in
    let n = source_row o in
    let src = c.args.self.now.src.now in
    let m = g.F.KernelFamily.meaning c.args.self.now.family.now in
    let t = c.args.dst_stride in
    let even = source_sized src n o.src_size.height c.args.self.now.source.width c.args.self.now.source.height in
    let zs = c.run_on_4_columns.new.work in
    c.run_on_4_rows.ensures
    ∙ (ap (λ k. painted c.args.dst.now t (row_value m o (rows zs k k 4)) 4) c.args.self.now.source.width
    ∙ across_packed m o (image_of src) (g.met.F.KernelFamily.shaped c.args.self.now.family.now) c.args.self.now.ready.source_height.0 even (λ i. c.args.y + i) c.args.work.now zs c.args.dst.now t 4 c.run_on_4_columns.ensures (gapless n 4 (length c.args.work.now) (omega arith) c.requires.work))
