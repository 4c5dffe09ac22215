-- The steps of a loop that writes row after row.
use Rattle.std.proofs.Common.{◌≡◌, ℕ, ◌+◌, ◌*◌, List, ◌++◌, length, take, drop, refl, ap, ◌∙◌, add-one, drop-drop}
use borrow.Rule.Slice.PartMut.{put_mid}
use Rattle.image.specs.Rows.{put, painted}

module _ {X : Type 0} where
  pub put_mid-put : (a k : ℕ) (xs ys : List X) → k ≡ length ys → put_mid a k xs ys ≡ put a ys xs
  put_mid-put a k xs ys e = ap (λ z. take a xs ++ (ys ++ z)) (drop-drop k a xs ∙ ap (λ n. drop (a + n) xs) e)

  pub painted_more : (xs dst ys : List X) (s y a k : ℕ) (v : ℕ → List X) → dst ≡ painted xs s v y → a ≡ y * s → ys ≡ v y → k ≡ length ys → put_mid a k dst ys ≡ painted xs s v (y + 1)
  unfolding painted
  painted_more xs dst ys s y a k v was at is long =
      put_mid-put a k dst ys long ∙ (rw (add-one, at, is, was))

  pub painted_none : (xs : List X) (s : ℕ) (v : ℕ → List X) → xs ≡ painted xs s v 0
  unfolding painted
  painted_none xs s v = refl
