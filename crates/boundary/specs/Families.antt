-- The families of the exported calls: Pair of Tent and Span, the same held to the depth, and Tent on floats.
use Rattle.std.specs.Prelude.{ℕ, Float}
use Rattle.convolution.specs.Meaning.{Meaning}
use Rattle.lines.specs.Lines.{line_meaning}
use Rattle.span.specs.Span.{span_knows, span_value}
use Rattle.tent.specs.Tent.{tent_knows, tent_value, float_value}
use Rattle.layers.specs.Layers.{pair_of, limit_of}

abbrev pub tent_span : Meaning ℕ
tent_span = pair_of (line_meaning tent_knows (tent_value (λ v. v) (λ n. n))) (line_meaning span_knows (span_value (λ v. v) (λ n. n)))

abbrev pub limited_tent_span : Meaning ℕ
limited_tent_span = limit_of tent_span

abbrev pub float_tent : Meaning Float
float_tent = line_meaning tent_knows float_value
