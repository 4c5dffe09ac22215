-- The image that rows lent for reading hold.
use Rattle.std.specs.Prelude.{List}
use Rattle.image.specs.Rows.{rows}
use Rattle.image.specs.declared.source_rows.SourceRows.{SourceRows}

abbrev pub image_of : {T : Type 0} → SourceRows T → List (List T)
image_of r = rows r.elements.now r.row_length r.stride r.height
