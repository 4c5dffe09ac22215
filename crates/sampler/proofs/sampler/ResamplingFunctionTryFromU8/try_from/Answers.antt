use Rattle.std.proofs.Common.{arith}
use Rattle.sampler.proofs.Found.{looked_up}
use Rattle.sampler.specs.declared.sampler.ResamplingFunction.TheVariants.{Bilinear}
use Rattle.sampler.proofs.sampler.ResamplingFunctionTryFromU8.try_from.Goals as goal

pub returns : goal.returns
returns c =
    let item = c.get.ensures.lookup in
    looked_up _ _ _ _ Bilinear _ _ item.0 (item.4 (omega arith) Bilinear) c.copied.ensures c.ok_or.ensures.value
