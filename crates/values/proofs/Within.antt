-- The pixel that a nearest stage takes lies within the source.
use Rattle.std.proofs.Common.{ℕ, zero, suc, ◌+◌, ◌*◌, ◌/◌, ◌^◌, ◌<◌, ◌≤◌, mul-le-mul_right, suc-mul, mul_comm, mul-zero, arith}
use Rattle.std.proofs.lemmas.Nat.{div_below, div-add-mod'}
use Rattle.values.specs.Nearest.{scale, nearest}

-- at any number that k is, so that omega takes it as an unknown
below : (n m x k : ℕ) → x < m → 0 < n → k * m ≤ n * 2 ^ 32 → x * k + k / 2 < n * 2 ^ 32
below n m x zero h p q = omega (arith, mul-zero x)
below n m x (suc j) h p q = let k = suc j in omega (arith, mul-le-mul_right k h, suc-mul x k, mul_comm k m)

pub scale_times : (n m : ℕ) → scale n m * m ≤ n * 2 ^ 32
scale_times n m = omega (arith, div-add-mod' (n * 2 ^ 32) m)

-- the place in the source, in parts of 2^32, lies within it
pub fixed_below : (n m x : ℕ) → x < m → 0 < n → x * scale n m + scale n m / 2 < n * 2 ^ 32
fixed_below n m x h p = below n m x (scale n m) h p (scale_times n m)

pub nearest_below : (n m x : ℕ) → x < m → 0 < n → nearest n m x < n
unfolding nearest
nearest_below n m x h p = div_below (x * scale n m + scale n m / 2) (2 ^ 32) n (omega arith) (fixed_below n m x h p)
