-- An output's index lies within its line, and its value between its two elements.
use Rattle.std.proofs.Common.{◌≡◌, ℕ, suc, ◌+◌, ◌-◌, ◌*◌, ◌%◌, ◌<◌, ◌≤◌, min, List, [], ◌∷◌, length, get_or, sym, ap, ◌∙◌, mul-le-mul_right, mod-eq_of_lt, suc-mul, mul_comm, mul-add, arith}
use Rattle.std.proofs.lemmas.Nat.{div_below, mod_below}
use Rattle.tent.specs.Tent.{tent_distance, tent_place, tent_blend, tent_between}

-- d is 2m and q is 2x + 1
inside : (q n d m : ℕ) → q < d → 1 ≤ n → q * n - m < n * d
inside q n d m h p = omega (arith, mul-le-mul_right n h, suc-mul q n, mul_comm n d)

pub index_within : (n m x : ℕ) (p : ℕ × ℕ) → x < m → 1 ≤ n → p ≡ tent_place n m x → p.0 < n
index_within n m x p h l e =
    omega (arith, ap (λ q. q.0) e, div_below (tent_distance n m x) (2 * m) n (omega arith) (inside (2 * x + 1) n (2 * m) m (omega arith) l))

pub remainder_within : (n m x : ℕ) (p : ℕ × ℕ) → x < m → p ≡ tent_place n m x → p.1 < 2 * m
remainder_within n m x p h e = omega (arith, ap (λ q. q.1) e, mod_below (tent_distance n m x) (2 * m) (omega arith))

mixed : (a b d m f most : ℕ) → a ≤ most → b ≤ most → f < d → m < d → a * (d - f) + b * f + m < suc most * d
mixed a b d m f most ha hb h s =
    let whole : most * (d - f) + most * f ≡ most * d = sym (mul-add most (d - f) f) ∙ ap (λ e. most * e) (omega arith) in
    omega (arith, mul-le-mul_right (d - f) ha, mul-le-mul_right f hb, suc-mul most d, whole)

pub blend_le : (a b m f most : ℕ) → a ≤ most → b ≤ most → f < 2 * m → 1 ≤ m → tent_blend a b m f ≤ most
blend_le a b m f most ha hb h p =
    omega (arith, div_below (a * (2 * m - f) + b * f + m) (2 * m) (suc most) (omega arith) (mixed a b (2 * m) m f most ha hb h (omega arith)))

-- no level is past the largest, so that none wraps
pub blend_is : (v w a b m f most r : ℕ) → v ≡ a → w ≡ b → v ≤ most → w ≤ most → f < 2 * m → 1 ≤ m → r ≡ tent_blend v w m f → r % (most + 1) ≡ tent_blend a b m f
blend_is v w a b m f most r ea eb ha hb h p e =
    let small : r < most + 1 = omega (arith, blend_le v w m f most ha hb h p) in
    mod-eq_of_lt small ∙ (e ∙ (rw (ea, eb)))

-- the place and the elements that were found are those of the line
pub between_is : {X : Type 0} (d : X) (blend : X → X → ℕ → ℕ → X) (xs : List X) (n m x : ℕ) (p : ℕ × ℕ) (a b r : X) → length xs ≡ n → p ≡ tent_place n m x → a ≡ get_or xs p.0 d → b ≡ get_or xs (min (p.0 + 1) (n - 1)) d → r ≡ blend a b m p.1 → r ∷ [] ≡ tent_between d blend xs m x ∷ []
between_is {X} d blend xs n m x p a b r long e ea eb is =
    let at : ℕ → ℕ × ℕ → X = λ k q. blend (get_or xs q.0 d) (get_or xs (min (q.0 + 1) (k - 1)) d) m q.1 in
    let value =
    is
    ∙ ap (λ z. blend z b m p.1) ea
    ∙ ap (λ z. blend (get_or xs p.0 d) z m p.1) eb
    ∙ ap (at n) e
    ∙ ap (λ k. at k (tent_place k m x)) (sym long) in
    ap (λ v. v ∷ []) value
