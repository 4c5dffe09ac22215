-- The elements that a line has, and the outputs of the lines of a pixel.
use Rattle.std.specs.Prelude.{ℕ, List, map}
use Rattle.std.specs.Borrow.{Bor}
use Rattle.image.specs.Rows.{joined}
use Rattle.lines.specs.declared.line.Line.{Line}
use Rattle.lines.specs.Lines.{line}

module _ {T : Type 0} where
  -- the rows that slices lend
  abbrev pub lent : List (Bor (List T)) → List (List T)
  lent rows = map (λ r. r.now) rows

  abbrev pub line_of : Line T → List T
  line_of l = line l.elements.now l.start l.step l.axis.source

  -- output x, of m, of each of the c channels of a row of n pixels
  abbrev pub pixel : (List T → ℕ → ℕ → List T) → List T → ℕ → ℕ → ℕ → ℕ → List T
  pixel value xs c n m x = joined (λ k. value (line xs k c n) m x) c
