-- Rows that a stage reads.
use Rattle.std.specs.Prelude.{◌≡◌}
use Rattle.image.specs.declared.source_rows.SourceRows.{SourceRows}
use Rattle.convolution.specs.declared.convolution.ConvolutionOptions.{ConvolutionOptions}
use Rattle.convolution.specs.Meaning.{source_row}

-- the rows of the source that a run is told of
pub record IsSource {T : Type 0} (o : ConvolutionOptions) (r : SourceRows T) : Type 0 where
  pub width : r.row_length ≡ source_row o
  pub height : r.height ≡ o.src_size.height
