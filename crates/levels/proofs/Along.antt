-- The elements of a line, by their places in the buffer.
use Rattle.std.proofs.Common.{◌≡◌, ℕ, zero, suc, ◌+◌, ◌-◌, ◌*◌, ◌<◌, ◌≤◌, List, ◌++◌, length, get_or, drop, refl, ap, ◌∙◌, ⊎_elim, add-zero, mul_comm, mul-le-mul_left, arith, length-append, rules}
use Rattle.std.proofs.lemmas.List.{places, get_or_append_left, get_or-append_right, get_or-take, get_or-drop}
use Rattle.std.proofs.lemmas.Bool.{cases_lt}
use Rattle.image.specs.Rows.{part, joined}
use Rattle.lines.specs.Lines.{line}

-- element i of n that are s apart
pub place_fits : (i n k s len : ℕ) → i < n → k + s * (n - 1) < len → k + i * s < len
place_fits i n k s len below fits =
    let le : s * i ≤ s * (n - 1) = mul-le-mul_left s (omega arith) in
    omega (arith, mul_comm i s)

module _ {X : Type 0} where
  length_singles : (v : ℕ → List X) (n : ℕ) → ((i : ℕ) → i < n → length (v i) ≡ 1) → length (joined v n) ≡ n
  unfolding joined
  length_singles v zero e = refl
  length_singles v (suc n) e = length-append (joined v n) (v n) ∙ omega (arith, length_singles v n (λ i l. e i (omega arith)), e n (omega arith))

  get_or_singles : (v : ℕ → List X) (n : ℕ) → ((i : ℕ) → i < n → length (v i) ≡ 1) → (i : ℕ) (d : X) → i < n → get_or (joined v n) i d ≡ get_or (v i) 0 d
  unfolding joined
  get_or_singles v zero e i d l = absurd (omega arith)
  get_or_singles v (suc n) e i d l =
      let long = length_singles v n (λ j m. e j (omega arith)) in
      let older : i < n → get_or (joined v n ++ v n) i d ≡ get_or (v i) 0 d =
      λ m. get_or_append_left (joined v n) (v n) d i (omega arith) ∙ get_or_singles v n (λ j k. e j (omega arith)) i d m in
      let newest : n ≤ i → get_or (joined v n ++ v n) i d ≡ get_or (v i) 0 d =
      λ m. let same : i ≡ n = omega arith in
      let none : n - n ≡ 0 = omega arith in
      rw same (get_or-append_right (joined v n) (v n) n n d long (omega arith) ∙ ap (λ j. get_or (v n) j d) none) in
      ⊎_elim older newest (cases_lt i n)

  module _ (xs : List X) (k s n : ℕ) (fits : k + s * (n - 1) < length xs) where
    single : (i : ℕ) → i < n → length (part (k + i * s) 1 xs) ≡ 1
    single i l = let within = place_fits i n k s (length xs) l fits in search (rules, places)

    pub length-line : length (line xs k s n) ≡ n
    unfolding line
    length-line = length_singles (λ i. part (k + i * s) 1 xs) n single

    pub get_or-line : (i : ℕ) (d : X) → i < n → get_or (line xs k s n) i d ≡ get_or xs (k + i * s) d
    unfolding line
    get_or-line i d l =
        let within = place_fits i n k s (length xs) l fits in
        get_or_singles (λ i. part (k + i * s) 1 xs) n single i d l ∙ (get_or-take 1 (drop (k + i * s) xs) 0 d (omega arith) ∙ (get_or-drop (k + i * s) xs 0 d ∙ ap (λ j. get_or xs j d) (add-zero (k + i * s))))
