-- What the layers mean, by what the families below them mean.
use Rattle.std.specs.Prelude.{ℕ, ◌-◌, ◌^◌, min, cond, ◌||◌, map}
use Rattle.convolution.specs.Meaning.{Meaning}

-- a layer of two: it knows what either knows, and the first that knows a function supplies its values
abbrev pub pair_of : {E : Type 0} → Meaning E → Meaning E → Meaning E
pair_of a b = record {
  knows = λ f. a.knows f || b.knows f;
  column = λ f c im h y d. cond (a.knows f) (a.column f c im h y d) (b.column f c im h y d);
  across = λ f c xs w d. cond (a.knows f) (a.across f c xs w d) (b.across f c xs w d);
}

-- the smaller of a value and the largest of a depth
abbrev pub limited : ℕ → ℕ → ℕ
limited d v = min v (2 ^ d - 1)

-- a layer over a family of 16-bit elements: it knows the same, and its values are limited
abbrev pub limit_of : Meaning ℕ → Meaning ℕ
limit_of a = record {
  knows = a.knows;
  column = λ f c im h y d. map (limited d) (a.column f c im h y d);
  across = λ f c xs w d. map (limited d) (a.across f c xs w d);
}
