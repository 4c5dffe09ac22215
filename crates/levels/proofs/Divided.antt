-- The product with a reciprocal is the quotient.
use Rattle.std.proofs.Common.{◌≡◌, ℕ, ◌+◌, ◌-◌, ◌*◌, ◌/◌, ◌%◌, ◌^◌, ◌<◌, ◌≤◌, true, ltb, sym, ap, ◌∙◌, mul_assoc, mul_comm, add-mul, mul-le-mul, lt_of_mul-lt-mul_right, mul-add, arith}
use Rattle.std.proofs.lemmas.Nat.{mod_below, div-mul-add, div-add-mod', div_below}
use Rattle.std.proofs.lemmas.Bool.Decides.{nat_tests}
use Rattle.levels.specs.Quotients.{reciprocal, scaled}

-- q is the quotient and r the remainder; p is the reciprocal of d, by e more than exact
module _ (q r d p e : ℕ) (exact : p * d ≡ 2 ^ 64 + e) (few : q ≤ 65535) (below : r < d) (close : e < d) (small : d ≤ 131071) where
  rest_small : (q * e + r * p) * d < 2 ^ 64 * d
  rest_small =
      let le : e ≤ 131070 = omega arith in
      let lr : r ≤ 131070 = omega arith in
      let a : q * e ≤ 65535 * 131070 = mul-le-mul few le in
      let b : q * e * d ≤ 65535 * 131070 * 131071 = mul-le-mul a small in
      let c : r * e ≤ 131070 * 131070 = mul-le-mul lr le in
      let whole : r * p * d ≡ r * 2 ^ 64 + r * e = mul_assoc r p d ∙ (ap (λ z. r * z) exact ∙ mul-add r (2 ^ 64) e) in
      omega (arith, add-mul (q * e) (r * p) d, whole)

  product : (q * d + r) * p ≡ q * 2 ^ 64 + (q * e + r * p)
  product =
      let whole : q * d * p ≡ q * 2 ^ 64 + q * e = mul_assoc q d p ∙ (ap (λ z. q * z) (mul_comm d p ∙ exact) ∙ mul-add q (2 ^ 64) e) in
      omega (arith, add-mul (q * d) r p, whole)

  product_quotient : (q * d + r) * p / 2 ^ 64 ≡ q
  product_quotient = ap (λ z. z / 2 ^ 64) product ∙ div-mul-add q (2 ^ 64) (q * e + r * p) (lt_of_mul-lt-mul_right d rest_small)

pub scaled_quotient : (v d : ℕ) → 1 < d → d ≤ 131071 → v < 65536 * d → scaled v (reciprocal d) ≡ v / d
unfolding scaled reciprocal
scaled_quotient v d some small few =
    let p = (2 ^ 64 + d - 1) / d in
    let there : ltb 1 d ≡ true = grind (arith, nat_tests) in
    let parted = div-add-mod' (2 ^ 64 + d - 1) d in
    let left = mod_below (2 ^ 64 + d - 1) d (omega arith) in
    let e = p * d - 2 ^ 64 in
    let exact : p * d ≡ 2 ^ 64 + e = omega (arith, parted, left) in
    let close : e < d = omega (arith, parted) in
    let q : v / d ≤ 65535 = omega (arith, div_below v d 65536 (omega arith) few) in
    rw there (ap (λ z. z * p / 2 ^ 64) (sym (div-add-mod' v d)) ∙ product_quotient (v / d) (v % d) d p e exact q (mod_below v d (omega arith)) close small)
