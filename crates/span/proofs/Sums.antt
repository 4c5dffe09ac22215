-- The bounds of a span, its sum and its mean.
use Rattle.std.proofs.Common.{◌≡◌, ℕ, suc, ◌+◌, ◌-◌, ◌*◌, ◌/◌, ◌%◌, ◌<◌, ◌≤◌, min, List, [], ◌∷◌, length, get_or, drop, sum_by, sym, ap, ◌∙◌, mul-le-mul_right, mod-eq_of_lt, mul_assoc, suc-mul, mul_comm, mul-suc, div-mul-le_self, add-one, arith, rules}
use Rattle.std.proofs.lemmas.Nat.{div_below, le-div}
use Rattle.std.proofs.lemmas.List.{places, get_or-drop}
use Rattle.std.proofs.lemmas.List.Sums.{sum_by_more}
use Rattle.std.proofs.lemmas.Grind.{div_ceil_times}
use Rattle.image.specs.Rows.{part}
use Rattle.span.specs.Span.{span_low, span_high, span_bounds, rounded_mean, span_mean, span_value}

-- one element more
pub sum_more : {X : Type 0} (f : X → ℕ) (xs : List X) (a i : ℕ) (d : X) → a ≤ i → i < length xs → sum_by f (part a (i + 1 - a) xs) ≡ sum_by f (part a (i - a) xs) + f (get_or xs i d)
sum_more f xs a i d h l =
    let e : i + 1 - a ≡ i - a + 1 = omega arith in
    let p : a + (i - a) ≡ i = omega arith in
    let within : i - a < length (drop a xs) = search (rules, places) in
    rw e (sum_by_more f (drop a xs) (i - a) d within ∙ ap (λ z. sum_by f (part a (i - a) xs) + f z) (get_or-drop a xs (i - a) d ∙ ap (λ j. get_or xs j d) p))

pub most_more : (most a i s v : ℕ) → a ≤ i → s ≤ most * (i - a) → v ≤ most → s + v ≤ most * (i + 1 - a)
most_more most a i s v h p q =
    let e : i + 1 - a ≡ suc (i - a) = omega arith in
    rw e (omega (arith, mul-suc most (i - a)))

twice : (a b : ℕ) → a * (2 * b) ≡ 2 * (a * b)
twice a b = sym (mul_assoc a 2 b) ∙ ap (λ z. z * b) (mul_comm a 2) ∙ mul_assoc 2 a b

-- a mean is no larger than the largest
pub mean_le : (sum k most : ℕ) → 0 < k → sum ≤ most * k → rounded_mean sum k ≤ most
mean_le sum k most h p =
    let d : suc most * (2 * k) ≡ 2 * (most * k) + 2 * k = suc-mul most (2 * k) ∙ ap (λ z. z + 2 * k) (twice most k) in
    omega (arith, div_below (2 * sum + k) (2 * k) (suc most) (omega arith) (omega (arith, d)))

-- a quotient, rounded up
pub rounded_up : (a m : ℕ) → 0 < m → a / m + min 1 (a % m) ≡ (a + m - 1) / m
rounded_up a m some =
    let k = a / m + min 1 (a % m) in
    let near = div_ceil_times a m some in
    omega (arith, le-div k (a + m - 1) m some (omega (arith, near)), div_below (a + m - 1) m (suc k) some (omega (arith, near, suc-mul k m)))

-- an output covers at least one element, and none past the end
pub some : (n m x : ℕ) → 0 < m → 1 ≤ n → span_low n m x < span_high n m x
some n m x h p =
    let a = x * n / m in
    let next : (x + 1) * n ≡ x * n + n = rw add-one (suc-mul x n) in
    let up : suc a * m ≤ (x + 1) * n + m - 1 =
    omega (arith, div-mul-le_self (x * n) m, suc-mul a m, next) in
    le-div (suc a) ((x + 1) * n + m - 1) m h up

pub within : (n m x : ℕ) → x < m → span_high n m x ≤ n
within n m x h =
    let e : (x + 1) * n ≤ m * n = rw add-one (mul-le-mul_right n h) in
    omega (arith, div_below ((x + 1) * n + m - 1) m (suc n) (omega arith) (omega (arith, e, suc-mul n m, mul_comm m n)))

module _ {X : Type 0} where
  -- no level is past the largest, so that none wraps
  pub mean_is : (level : X → ℕ) (xs : List X) (sum k most r : ℕ) → sum ≡ sum_by level xs → k ≡ length xs → 0 < k → sum ≤ most * k → r ≡ rounded_mean sum k → r % (most + 1) ≡ span_mean level xs
  mean_is level xs sum k most r s long h p e =
      let small : r < most + 1 = omega (arith, mean_le sum k most h p) in
      mod-eq_of_lt small ∙ (e ∙ (rw (long, s)))

  -- the bounds that were worked out are those of the line
  pub value_is : (level : X → ℕ) (of : ℕ → X) (xs : List X) (n m x : ℕ) (p : ℕ × ℕ) (r : X) → length xs ≡ n → p ≡ span_bounds n m x → r ≡ of (span_mean level (part p.0 (p.1 - p.0) xs)) → r ∷ [] ≡ span_value level of xs m x
  value_is level of xs n m x p r long e is =
      let at : ℕ × ℕ → X = λ q. of (span_mean level (part q.0 (q.1 - q.0) xs)) in
      ap (λ v. v ∷ []) (is ∙ ap at e ∙ ap (λ k. at (span_bounds k m x)) (sym long))
