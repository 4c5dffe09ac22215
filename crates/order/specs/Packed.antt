-- Pixels without gaps, and what a plan makes of them.
use Rattle.std.specs.Prelude.{ℕ, ◌*◌, List}
use Rattle.image.specs.Rows.{row, rows, joined}
use Rattle.image.specs.declared.numbers.Numbers.{Numbers}
use Rattle.image.specs.declared.image_size.ImageSize.{ImageSize}
use Rattle.convolution.specs.Meaning.{Meaning}
use Rattle.planner.specs.declared.plan.ResamplingPlan.{ResamplingPlan}
use Rattle.planner.specs.Plan.{plan_stages}
use Rattle.values.specs.Values.{composed}

abbrev pub packed_numbers : ℕ → ImageSize → Numbers
packed_numbers c s = record { channels = c; width = s.width; height = s.height; stride = 0; bit_depth = 0 }

-- the pixels that a plan makes of others, all without gaps
abbrev pub plan_pixels : {F : Type 0} → Meaning ℕ → ResamplingPlan ℕ F → List ℕ → List ℕ
plan_pixels m p src =
    joined (row (composed m p.channels 0 (plan_stages p) (rows src (p.source_size.width * p.channels) (p.source_size.width * p.channels) p.source_size.height)))
    p.target_size.height
