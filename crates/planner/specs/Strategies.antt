-- The ways in which a plan's stages come about.
use Rattle.std.specs.Prelude.{Bool, true, List, [], ◌∷◌, Option, Some, None}
use Rattle.image.specs.declared.image_size.ImageSize.{ImageSize}
use Rattle.sampler.specs.declared.sampler.ResamplingFunction.{ResamplingFunction}
use Rattle.planner.specs.declared.strategy.Strategy.{Strategy}
use Rattle.planner.specs.declared.strategy.Strategy.TheVariants.{SingleStep, MultiStep, Supersampled}
use Rattle.planner.specs.declared.stage.Stage.{Stage}
use Rattle.planner.specs.Stages.{stage_of, growing, enough, between, within}

abbrev pub stages_by : Strategy → ResamplingFunction → ImageSize → ImageSize → List Stage
stages_by SingleStep f s t = stage_of f s t ∷ []
stages_by MultiStep f s t = growing (enough t) f s t
stages_by (Supersampled p) f s t = stage_of p s (between s t) ∷ stage_of f (between s t) t ∷ []

-- several stages are for targets that are nowhere smaller
abbrev pub suits : Strategy → ImageSize → ImageSize → Bool
suits SingleStep s t = true
suits MultiStep s t = within s t
suits (Supersampled p) s t = true

-- the same two, where no stage may be left
abbrev pub stages_left : Option Strategy → ResamplingFunction → ImageSize → ImageSize → List Stage
stages_left None f s t = []
stages_left (Some w) f s t = stages_by w f s t

abbrev pub suits_left : Option Strategy → ImageSize → ImageSize → Bool
suits_left None s t = true
suits_left (Some w) s t = suits w s t
