-- The lengths of a layer's values are those of the values below it.
use Rattle.std.specs.Prelude.{◌≡◌, ℕ, ◌*◌, Bool, true, false, cond, List, length}
use Rattle.std.proofs.Common.{◌∙◌}
use Rattle.std.proofs.lemmas.List.{length-map}
use Rattle.convolution.specs.Meaning.{Meaning, Shaped}
use Rattle.layers.specs.Layers.{pair_of, limited, limit_of}

chosen : {E : Type 0} (b : Bool) (xs ys : List E) (n : ℕ) → length xs ≡ n → length ys ≡ n → length (cond b xs ys) ≡ n
chosen true xs ys n p q = p
chosen false xs ys n p q = q

pub pair_shaped : {E : Type 0} (a b : Meaning E) → Shaped a → Shaped b → Shaped (pair_of a b)
pair_shaped a b p q = record {
  column_length = λ f c n im h y d some even. chosen (a.knows f) _ _ n (p.column_length f c n im h y d some even) (q.column_length f c n im h y d some even);
  across_length = λ f c n xs w d some long. chosen (a.knows f) _ _ (w * c) (p.across_length f c n xs w d some long) (q.across_length f c n xs w d some long);
}

pub limit_shaped : (a : Meaning ℕ) → Shaped a → Shaped (limit_of a)
limit_shaped a p = record {
  column_length = λ f c n im h y d some even. length-map _ (limited d) ∙ p.column_length f c n im h y d some even;
  across_length = λ f c n xs w d some long. length-map _ (limited d) ∙ p.across_length f c n xs w d some long;
}
