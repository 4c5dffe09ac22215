use Rattle.std.proofs.Common.{length}
use Rattle.replay_reference.proofs.list_of.Given as goal

abbrev pub decreases-loop-call : goal.decreases-loop-call
decreases-loop-call l = length l.rest
