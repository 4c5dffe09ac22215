use Rattle.std.proofs.Common.{[]}
use Rattle.history.specs.Past.Past.{fresh}
use Rattle.resampling.specs.Seen.{sheet_of}
use Rattle.rate_sheet.proofs.Calls.{after}
use Rattle.rate_sheet.proofs.lay.Goals as goal

pub returns : goal.returns
returns c =
    let s = sheet_of c.args.sheet.now in
    after s (sheet_of c.resample_window.new.sheet) _ (c.resample_window.ensures.past s [] fresh)
