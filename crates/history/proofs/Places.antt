-- Where the elements of pixels lie.
use Rattle.std.proofs.Common.{◌≡◌, ℕ, ◌+◌, ◌*◌, ◌/◌, ◌%◌, ◌<◌, List, length, get_or, drop, sym, ap, ◌∙◌, add_assoc, arith}
use lib.Arith.{digits_lt, digits_div, digits_mod}
use Rattle.std.proofs.lemmas.List.{same_lists, get_or-take, get_or-drop, length-take, length-drop}
use Rattle.image.specs.Rows.{part}
use Rattle.image.specs.declared.numbers.Numbers.{Numbers}
use Rattle.image.specs.Stores.{pitch, place, pixel}
use Rattle.history.proofs.Allowed.{Fit}

-- the row, and the column, of an element that is in a pixel
short : (n : Numbers) (x y i : ℕ) → Fit n x y → i < n.channels → x * n.channels + i < pitch n
short n x y i f h = let l = digits_lt {q = x} {m = n.width} {r = i} {c = n.channels} f.column h in omega (arith, f.fits)

pub row_of : (n : Numbers) (x y i : ℕ) → Fit n x y → i < n.channels → (place n x y + i) / pitch n ≡ y
row_of n x y i f h = ap (λ k. k / pitch n) (add_assoc (y * pitch n) (x * n.channels) i) ∙ digits_div y (short n x y i f h)

rest_of : (n : Numbers) (x y i : ℕ) → Fit n x y → i < n.channels → (place n x y + i) % pitch n ≡ x * n.channels + i
rest_of n x y i f h = ap (λ k. k % pitch n) (add_assoc (y * pitch n) (x * n.channels) i) ∙ digits_mod y (short n x y i f h)

pub column_of : (n : Numbers) (x y i : ℕ) → Fit n x y → i < n.channels → (place n x y + i) % pitch n / n.channels ≡ x
column_of n x y i f h = ap (λ m. m / n.channels) (rest_of n x y i f h) ∙ digits_div x h

-- so an element lies in one pixel only
pub same_column : (n : Numbers) (x y i x' y' i' : ℕ) → Fit n x y → Fit n x' y' → i < n.channels → i' < n.channels → place n x y + i ≡ place n x' y' + i' → x ≡ x'
same_column n x y i x' y' i' f f' h h' e =
    sym (column_of n x y i f h) ∙ (ap (λ k. k % pitch n / n.channels) e ∙ column_of n x' y' i' f' h')

pub same_row : (n : Numbers) (x y i x' y' i' : ℕ) → Fit n x y → Fit n x' y' → i < n.channels → i' < n.channels → place n x y + i ≡ place n x' y' + i' → y ≡ y'
same_row n x y i x' y' i' f f' h h' e =
    sym (row_of n x y i f h) ∙ (ap (λ k. k / pitch n) e ∙ row_of n x' y' i' f' h')

module _ {E : Type 0} where
  -- an element of a pixel
  pub element : (n : Numbers) (xs : List E) (x y i : ℕ) (d : E) → i < n.channels → get_or (pixel n xs x y) i d ≡ get_or xs (place n x y + i) d
  element n xs x y i d h = get_or-take n.channels (drop (place n x y) xs) i d h ∙ get_or-drop (place n x y) xs i d

  -- equal parts, by their elements
  pub part_same : (xs ys : List E) (q m : ℕ) → length xs ≡ length ys → ((i : ℕ) (d : E) → i < m → get_or xs (q + i) d ≡ get_or ys (q + i) d) → part q m xs ≡ part q m ys
  part_same xs ys q m l h =
      same_lists (part q m xs) (part q m ys)
      (length-take m (drop q xs) ∙ (omega (arith, length-take m (drop q ys), length-drop q xs, length-drop q ys)))
      (λ k d b. let lt : k < m = omega (arith, length-take m (drop q xs)) in
      get_or-take m (drop q xs) k d lt ∙ (get_or-drop q xs k d ∙ (h k d lt ∙ sym (get_or-take m (drop q ys) k d lt ∙ get_or-drop q ys k d))))
