-- Where rows and pixels end within a buffer.
use Rattle.std.proofs.Common.{◌≡◌, ℕ, zero, suc, ◌+◌, ◌-◌, ◌*◌, ◌<◌, ◌≤◌, min, suc-mul, mul_comm, mul-add, mul-le-mul_left, arith}

-- row y of rows that begin s apart lies within the buffer
pub row_fits : (y h s n size : ℕ) → y < h → s * (h - 1) + n ≤ size → y * s + n ≤ size
row_fits y h s n size below fits =
    let le : s * y ≤ s * (h - 1) = mul-le-mul_left s (omega arith) in
    omega (arith, mul_comm y s)

-- the rows from row y on, k of them or as many as there are, lie within what is left of the buffer
pub rows_fit_from : (y h s n k size : ℕ) → y < h → s * (h - 1) + n ≤ size → s * (min k (h - y) - 1) + n ≤ size - y * s
rows_fit_from y h s n k size below fits =
    let le : s * (y + (min k (h - y) - 1)) ≤ s * (h - 1) = mul-le-mul_left s (omega arith) in
    omega (arith, mul_comm y s, mul-add s y (min k (h - y) - 1))

-- the last of n pixels of c elements ends with them
pub pixels_within : (n c : ℕ) → 0 < n → c * (n - 1) + c ≡ n * c
pixels_within zero c some = absurd (omega arith)
pixels_within (suc n) c some = let e : suc n - 1 ≡ n = omega arith in rw e (omega (arith, suc-mul n c, mul_comm n c))
