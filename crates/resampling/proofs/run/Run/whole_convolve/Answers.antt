use Rattle.std.proofs.Common.{length, ap, ◌∙◌}
use Rattle.image.specs.Images.{image_of}
use Rattle.image.specs.Rows.{rows, painted}
use Rattle.convolution.specs.Meaning.{source_row, column_value, row_value}
use Rattle.resampling.proofs.Packed.{gapless, source_sized}
use Rattle.resampling.proofs.Runs.{whole_room, both_run, across_packed}
use Rattle.resampling.proofs.run.Run.whole_convolve.Goals as goal

pub returns : goal.returns
returns g c =
    let o = c.args.self.now.options in
    let n = source_row o in
    let src = c.args.self.now.src.now in
    let m = g.F.KernelFamily.meaning c.args.self.now.family.now in
    let t = c.args.dst_stride in
    let h = o.dst_size.height in
    let room = whole_room o.src_size.width h o.channels (length c.args.work.now) c.requires.work in
    let even = source_sized src n o.src_size.height c.args.self.now.source.width c.args.self.now.source.height in
    let zs = c.filter_columns.new.dst in
    let is = c.filter_columns.ensures ∙ ap (λ k. painted c.args.work.now k (column_value m o (image_of src)) h) c.args.self.now.source.width in
    c.filter_rows.ensures
    ∙ (ap (λ k. painted c.args.dst.now t (row_value m o (rows zs k k h)) h) c.args.self.now.source.width
    ∙ (across_packed m o (image_of src) (g.met.F.KernelFamily.shaped c.args.self.now.family.now) c.args.self.now.ready.source_height.0 even (λ i. i) c.args.work.now zs c.args.dst.now t h is (gapless n h (length c.args.work.now) c.args.self.now.ready.target_height.0 room)
    ∙ both_run m o (image_of src) c.args.dst.now t))
