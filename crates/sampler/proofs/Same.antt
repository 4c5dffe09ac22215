-- What `==` tests: whether the places are the same.
use Rattle.std.proofs.Common.{rules, ◌≡◌, ap₂, eqb}
use denote.Enum.Bare.{sameb}
use denote.Enum.Declared.{tag_of}
use Rattle.sampler.specs.Functions.{place}
use Rattle.sampler.specs.declared.sampler.ResamplingFunction.{ResamplingFunction}
use Rattle.sampler.specs.contracts.sampler.ResamplingFunction.{the_type}

tag_is_place : (f : ResamplingFunction) → tag_of the_type f ≡ place f
tag_is_place f = search rules

pub same_place : (f g : ResamplingFunction) → sameb the_type f g ≡ eqb (place f) (place g)
same_place f g = ap₂ eqb (tag_is_place f) (tag_is_place g)
