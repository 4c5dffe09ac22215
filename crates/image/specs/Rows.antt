-- Rows in a buffer, and a buffer after rows were written into it.
use Rattle.std.specs.Prelude.{ℕ, zero, suc, ◌+◌, ◌-◌, ◌*◌, ◌≤◌, List, [], ◌++◌, map, length, take, drop, slice_index_or}
use Rattle.std.specs.List.{range_with_len}

-- h rows of n elements, s apart, lie within a buffer of len elements and do not overlap
pub record RowsFit (n s h len : ℕ) : Type 0 where
  pub apart : n ≤ s
  pub within : s * (h - 1) + n ≤ len

module _ {E : Type 0} where
  -- the n elements from the place k on
  abbrev pub part : ℕ → ℕ → List E → List E
  part k n xs = take n (drop k xs)

  -- xs with ys written from the place k on
  abbrev pub put : ℕ → List E → List E → List E
  put k ys xs = take k xs ++ (ys ++ drop (k + length ys) xs)

  -- xs with the rows v 0, v 1 .. written, h of them, row y from the place y * s on
  unfoldable pub painted : List E → ℕ → (ℕ → List E) → ℕ → List E
  painted xs s v zero = xs
  painted xs s v (suc h) = put (h * s) (v h) (painted xs s v h)

  -- the rows v 0, v 1 .. as an image, h of them
  unfoldable pub listed : (ℕ → List E) → ℕ → List (List E)
  listed v h = map v (range_with_len 0 h)

  -- the image of h rows of n elements each, row y from the place y * s on
  abbrev pub rows : List E → ℕ → ℕ → ℕ → List (List E)
  rows xs n s h = listed (λ y. part (y * s) n xs) h

  -- row y of an image
  abbrev pub row : List (List E) → ℕ → List E
  row im y = slice_index_or im y []

  -- the parts v 0, v 1 .. one after the other, n of them
  unfoldable pub joined : (ℕ → List E) → ℕ → List E
  joined v zero = []
  joined v (suc n) = joined v n ++ v n
