use Rattle.history.proofs.Runs.{promise}
use Rattle.history.proofs.promise_stands.Goals as goal

pub returns : goal.returns
returns g c = promise _
