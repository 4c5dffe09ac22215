use Rattle.std.proofs.Common.{refl, ap, ◌∙◌}
use Rattle.levels.specs.Quotients.{scaled}
use Rattle.levels.proofs.Divided.{scaled_quotient}
use Rattle.levels.proofs.quotient.scaled.Goals as goal

pub returns : goal.returns
unfolding scaled
returns c = record {
  value = refl;
  quotient = λ d some small few is. ap (scaled c.args.v) is ∙ scaled_quotient c.args.v d some small few;
}
