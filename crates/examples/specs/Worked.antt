-- Examples worked by hand, of stores, stages, families and plans: what the definitions give.
use Rattle.std.specs.Prelude.{true, false, [], ◌∷◌, ◌++◌, ◌≡◌, ℕ}
use Rattle.image.specs.Refusals.Answer.{granted, refused}
use Rattle.image.specs.declared.numbers.Numbers.{Numbers}
use Rattle.image.specs.Stores.{source_answer}
use Rattle.image.specs.declared.image_size.ImageSize.{ImageSize}
use Rattle.sampler.specs.declared.sampler.ResamplingFunction.{ResamplingFunction}
use Rattle.sampler.specs.declared.sampler.ResamplingFunction.TheVariants.{Bilinear, Nearest, Cubic, Box}
use Rattle.planner.specs.declared.scaler.Route.TheVariants.{Single}
use Rattle.planner.specs.declared.scaler.Scaler.{Scaler}
use Rattle.planner.specs.declared.stage.Stage.{Stage}
use Rattle.planner.specs.declared.stage.StageKind.{StageKind}
use Rattle.planner.specs.declared.stage.StageKind.TheVariants.{Sampled, Vertical, Horizontal, Both}
use Rattle.planner.specs.Stages.{stages_of}
use Rattle.convolution.specs.Meaning.{Meaning}
use Rattle.lines.specs.Lines.{line_meaning}
use Rattle.span.specs.Span.{span_knows, span_value}
use Rattle.tent.specs.Tent.{tent_value}
use Rattle.values.specs.Nearest.{nearest}
use Rattle.values.specs.Values.{composed}

-- two by three pixels of one channel
abbrev two_by_three : ℕ → Numbers
two_by_three stride = record { channels = 1; width = 2; height = 3; stride = stride; bit_depth = 0 }

abbrev by : ℕ → ℕ → ImageSize
by w h = record { width = w; height = h }

abbrev enlarging : ResamplingFunction → Scaler
enlarging f = record { function = f; multi_step_upscaling = true; supersampling = false; route = Single }

abbrev reducing : ResamplingFunction → Scaler
reducing f = record { function = f; multi_step_upscaling = false; supersampling = true; route = Single }

abbrev plain : ResamplingFunction → Scaler
plain f = record { function = f; multi_step_upscaling = false; supersampling = false; route = Single }

-- elements that are their own levels
abbrev level : ℕ → ℕ
level v = v

abbrev of : ℕ → ℕ
of v = v

abbrev span : Meaning ℕ
span = line_meaning span_knows (span_value level of)

abbrev stage : StageKind → ResamplingFunction → ImageSize → ImageSize → Stage
stage k f s t = record { kind = k; function = f; source = s; target = t }

pub record Worked : Type 0 where
  -- rows of two elements, four apart: ten elements reach the end of the third row
  pub buffer_passes : source_answer 1 (two_by_three 4) 10 ≡ granted
  pub buffer_short : source_answer 1 (two_by_three 4) 9 ≡ refused 4 (10 ∷ 2 ∷ 3 ∷ 1 ∷ 9 ∷ [])
  pub stride_short : source_answer 1 (two_by_three 1) 10 ≡ refused 5 (2 ∷ 1 ∷ [])
  -- nearest, by the output: two pixels to three, three to two
  pub nearest_up : (nearest 2 3 0 ∷ nearest 2 3 1 ∷ nearest 2 3 2 ∷ []) ≡ (0 ∷ 0 ∷ 1 ∷ [])
  pub nearest_down : (nearest 3 2 0 ∷ nearest 3 2 1 ∷ []) ≡ (0 ∷ 2 ∷ [])
  -- means, and values between two elements, along one line
  pub mean : (span_value level of (10 ∷ 20 ∷ 31 ∷ []) 2 0 ++ span_value level of (10 ∷ 20 ∷ 31 ∷ []) 2 1) ≡ (15 ∷ 26 ∷ [])
  pub tent : ((tent_value level of (0 ∷ 100 ∷ []) 4 0 ++ tent_value level of (0 ∷ 100 ∷ []) 4 1) ++ (tent_value level of (0 ∷ 100 ∷ []) 4 2 ++ tent_value level of (0 ∷ 100 ∷ []) 4 3)) ≡ (0 ∷ 25 ∷ 75 ∷ 100 ∷ [])
  -- both axes, the vertical first: the means 1 and 2, and then 2; the horizontal first would give 1
  pub both_axes : composed span 1 0 (stages_of (plain Box) (by 2 2) (by 1 1)) ((0 ∷ 0 ∷ []) ∷ (1 ∷ 3 ∷ []) ∷ []) ≡ ((2 ∷ []) ∷ [])
  -- enlarging tenfold at the ratio 2: over 20, 40 and 80
  pub enlarged : stages_of (enlarging Cubic) (by 10 10) (by 100 100) ≡ (stage Both Cubic (by 10 10) (by 20 20) ∷ stage Both Cubic (by 20 20) (by 40 40) ∷ stage Both Cubic (by 40 40) (by 80 80) ∷ stage Both Cubic (by 80 80) (by 100 100) ∷ [])
  -- one axis arrives before the other
  pub uneven : stages_of (enlarging Bilinear) (by 1 1) (by 2 3) ≡ (stage Both Bilinear (by 1 1) (by 2 2) ∷ stage Vertical Bilinear (by 2 2) (by 2 3) ∷ [])
  -- reducing: by nearest from a ratio of 4 on, by Box from 3 on, else at once
  pub reduced_by_nearest : stages_of (reducing Bilinear) (by 400 100) (by 100 100) ≡ (stage Sampled Nearest (by 400 100) (by 200 100) ∷ stage Horizontal Bilinear (by 200 100) (by 100 100) ∷ [])
  pub reduced_by_box : stages_of (reducing Bilinear) (by 399 100) (by 100 100) ≡ (stage Horizontal Box (by 399 100) (by 200 100) ∷ stage Horizontal Bilinear (by 200 100) (by 100 100) ∷ [])
  pub reduced_at_once : stages_of (reducing Bilinear) (by 299 100) (by 100 100) ≡ (stage Horizontal Bilinear (by 299 100) (by 100 100) ∷ [])
