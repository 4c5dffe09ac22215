-- Parts of one length, one after the other: element j is element j % c of part j / c.
use Rattle.std.proofs.Common.{◌≡◌, ℕ, zero, suc, ◌+◌, ◌-◌, ◌*◌, ◌/◌, ◌%◌, ◌<◌, ◌≤◌, List, length, get_or, sym, ap, ◌∙◌, ⊎_elim, mul-le-mul_right, suc-mul, arith}
use Rattle.std.proofs.lemmas.List.{same_lists, get_or_append_left, get_or-append_right}
use Rattle.std.proofs.lemmas.Bool.{cases_lt}
use Rattle.std.proofs.lemmas.Nat.{div_below, mod_below, div-add-mod'}
use Rattle.image.specs.Rows.{joined}
use Rattle.values.proofs.Shapes.{length_parts}

module _ {X : Type 0} where
  pub get_or-joined : (v : ℕ → List X) (c h : ℕ) → ((x : ℕ) → x < h → length (v x) ≡ c) → (x i : ℕ) (d : X) → x < h → i < c → get_or (joined v h) (x * c + i) d ≡ get_or (v x) i d
  unfolding joined
  get_or-joined v c zero even x i d l b = absurd (omega arith)
  get_or-joined v c (suc h) even x i d l b =
      let long : length (joined v h) ≡ h * c = length_parts v c h (λ z m. even z (omega arith)) in
      ⊎_elim
      (λ older.
      let le : suc x * c ≤ h * c = mul-le-mul_right c (omega arith) in
      get_or_append_left (joined v h) (v h) d (x * c + i) (omega (arith, suc-mul x c)) ∙ get_or-joined v c h (λ z m. even z (omega arith)) x i d older b)
      (λ newest.
      let e : x ≡ h = omega arith in
      let back : h * c + i - h * c ≡ i = omega arith in
      rw e (get_or-append_right (joined v h) (v h) (h * c) (h * c + i) d long (omega arith) ∙ ap (λ (z : ℕ). get_or (v h) z d) back))
      (cases_lt x h)

  -- a list with those elements is the parts, one after the other
  pub joined_from : (ys : List X) (v : ℕ → List X) (c h : ℕ) → 0 < c → ((x : ℕ) → x < h → length (v x) ≡ c) → length ys ≡ h * c → ((j : ℕ) (d : X) → j < h * c → get_or ys j d ≡ get_or (v (j / c)) (j % c) d) → ys ≡ joined v h
  joined_from ys v c h p even long each =
      same_lists ys (joined v h) (long ∙ sym (length_parts v c h even))
      (λ j d l.
      let below : j < h * c = omega arith in
      each j d below
      ∙ sym (ap (λ (z : ℕ). get_or (joined v h) z d) (sym (div-add-mod' j c)) ∙ get_or-joined v c h even (j / c) (j % c) d (div_below j c h p below) (mod_below j c p)))
