-- Dividing by a product: the reciprocal of a divisor, in parts of 2^64 and rounded up.
use Rattle.std.specs.Prelude.{ℕ, ◌+◌, ◌-◌, ◌*◌, ◌/◌, ◌^◌, cond, nat_lt}

-- 0 where there is none
unfoldable pub reciprocal : ℕ → ℕ
reciprocal d = cond (nat_lt 1 d) ((2 ^ 64 + d - 1) / d) 0

-- the whole part of v times a reciprocal
unfoldable pub scaled : ℕ → ℕ → ℕ
scaled v r = v * r / 2 ^ 64
