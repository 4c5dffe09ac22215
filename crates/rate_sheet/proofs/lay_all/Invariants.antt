use Rattle.resampling.specs.Seen.{sheet_of}
use Rattle.rate_sheet.specs.Sheets.{After}
use Rattle.rate_sheet.proofs.lay_all.Given as goal

-- each strip laid is a call
abbrev pub invariant-loop-strip : goal.invariant-loop-strip
invariant-loop-strip l = After l.strip-index (sheet_of l.initial.sheet) (sheet_of l.sheet)
