-- What a list holds after a part is written.
use Rattle.std.proofs.Common.{◌≡◌, ℕ, ◌+◌, ◌<◌, ◌≤◌, List, length, get_or, arith, rules}
use Rattle.std.proofs.lemmas.List.{places, same_lists}
use Rattle.image.specs.Rows.{part, put}

module _ {X : Type 0} where
  pub length-put : (k : ℕ) (ys xs : List X) → k + length ys ≤ length xs → length (put k ys xs) ≡ length xs
  length-put k ys xs h = search (rules, places)

  pub get_or-put_in : (k : ℕ) (ys xs : List X) (i : ℕ) (d : X) → k ≤ length xs → i < length ys → get_or (put k ys xs) (k + i) d ≡ get_or ys i d
  get_or-put_in k ys xs i d h l = search (rules, places)

  pub get_or-put_below : (k : ℕ) (ys xs : List X) (i : ℕ) (d : X) → k ≤ length xs → i < k → get_or (put k ys xs) i d ≡ get_or xs i d
  get_or-put_below k ys xs i d h l = search (rules, places)

  pub get_or-put_above : (k : ℕ) (ys xs : List X) (i : ℕ) (d : X) → k + length ys ≤ length xs → k + length ys ≤ i → get_or (put k ys xs) i d ≡ get_or xs i d
  get_or-put_above k ys xs i d h l = search (rules, places)

  -- a write within a part
  pub put-put : (a k : ℕ) (ys zs xs : List X) → a + length ys ≤ length xs → k + length zs ≤ length ys → put a (put k zs ys) xs ≡ put (a + k) zs (put a ys xs)
  put-put a k ys zs xs h l =
      same_lists _ _ (search (rules, places)) (λ i d b. grind (arith, places))

  pub part-put : (k : ℕ) (ys xs : List X) → k ≤ length xs → part k (length ys) (put k ys xs) ≡ ys
  part-put k ys xs h = same_lists _ _ (search (rules, places)) (λ i d b. grind (arith, places))

  pub part_below_put : (a n k : ℕ) (ys xs : List X) → a + n ≤ k → k + length ys ≤ length xs → part a n (put k ys xs) ≡ part a n xs
  part_below_put a n k ys xs h l = same_lists _ _ (search (rules, places)) (λ i d b. grind (arith, places))

  pub put-part : (a n : ℕ) (xs : List X) → a + n ≤ length xs → put a (part a n xs) xs ≡ xs
  put-part a n xs h = same_lists _ _ (search (rules, places)) (λ i d b. grind (arith, places))
