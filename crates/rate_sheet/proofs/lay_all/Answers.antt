use Rattle.std.proofs.Common.{[]}
use Rattle.history.specs.Past.Past.{fresh}
use Rattle.resampling.specs.Seen.{sheet_of}
use Rattle.rate_sheet.proofs.Calls.{after, in_turn}
use Rattle.rate_sheet.proofs.lay_all.Goals as goal

pub loop-strip-init : goal.loop-strip-init
loop-strip-init c = let s = sheet_of c.args.sheet.now in after s s [] fresh

pub loop-strip-preserved : goal.loop-strip-preserved
loop-strip-preserved c = in_turn c.loop-strip.invariant c.in_ok-lay.ensures
