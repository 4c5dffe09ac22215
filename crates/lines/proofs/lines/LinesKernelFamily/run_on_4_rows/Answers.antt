use Rattle.std.proofs.Common.{◌∙◌, arith}
use Rattle.image.specs.Images.{image_of}
use Rattle.lines.specs.OfLines.{row_even, across_four}
use Rattle.lines.proofs.lines.LinesKernelFamily.run_on_4_rows.Goals as goal

pub returns-in-1 : goal.returns-in-1
returns-in-1 g c = c.four_rows_of_pixels.ensures ∙ across_four g.K.LineKernel.value g.met.K.LineKernel.one g.K.LineKernel.knows c.args.options (image_of c.args.src.now) c.args.dst.now c.args.dst_stride 1 c.in-1.is c.requires.ready.some_channels (λ i l. row_even c.args.src.now i (omega (arith, l, c.requires.four)) ∙ c.requires.source)

pub returns-in-2 : goal.returns-in-2
returns-in-2 g c = c.four_rows_of_pixels-in-2.ensures ∙ across_four g.K.LineKernel.value g.met.K.LineKernel.one g.K.LineKernel.knows c.args.options (image_of c.args.src.now) c.args.dst.now c.args.dst_stride 2 c.in-2.is c.requires.ready.some_channels (λ i l. row_even c.args.src.now i (omega (arith, l, c.requires.four)) ∙ c.requires.source)

pub returns-in-3 : goal.returns-in-3
returns-in-3 g c = c.four_rows_of_pixels-in-3.ensures ∙ across_four g.K.LineKernel.value g.met.K.LineKernel.one g.K.LineKernel.knows c.args.options (image_of c.args.src.now) c.args.dst.now c.args.dst_stride 3 c.in-3.is c.requires.ready.some_channels (λ i l. row_even c.args.src.now i (omega (arith, l, c.requires.four)) ∙ c.requires.source)

pub returns-in_default : goal.returns-in_default
returns-in_default g c = c.four_rows_of_pixels-in_default.ensures ∙ across_four g.K.LineKernel.value g.met.K.LineKernel.one g.K.LineKernel.knows c.args.options (image_of c.args.src.now) c.args.dst.now c.args.dst_stride 4 (omega arith) c.requires.ready.some_channels (λ i l. row_even c.args.src.now i (omega (arith, l, c.requires.four)) ∙ c.requires.source)
