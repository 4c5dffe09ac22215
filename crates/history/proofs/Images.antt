-- Stores with equal pixels have equal images.
use Rattle.std.proofs.Common.{◌≡◌, ℕ, ◌+◌, ◌*◌, ◌/◌, ◌%◌, ◌<◌, List, length, get_or, sym, ap, ◌∙◌, inl, inr, mod-lt, mul-zero, div-add-mod', arith}
use Rattle.std.proofs.lemmas.Nat.{div_below}
use Rattle.std.proofs.lemmas.Bool.{cases_lt}
use Rattle.image.specs.declared.numbers.Numbers.{Numbers}
use Rattle.image.specs.Stores.{pitch, row_length, place, pixel, image}
use Rattle.values.proofs.Copies.{listed_same}
use Rattle.history.specs.Calls.{Store}
use Rattle.history.proofs.Places.{element, part_same}

positive : (j w c : ℕ) → j < w * c → 0 < c
positive j w c h =
    elim (cases_lt 0 c) [
      | inl l ↦ l
      | inr z ↦ let e : c ≡ 0 = omega arith in absurd (let q : w * c ≡ 0 = ap (λ v. w * v) e ∙ mul-zero w in omega (arith, q, h))
    ]

module _ {E : Type 0} where
  image_same : (n : Numbers) (xs ys : List E) → length xs ≡ length ys → ((x y : ℕ) → x < n.width → y < n.height → pixel n xs x y ≡ pixel n ys x y) → image n xs ≡ image n ys
  image_same n xs ys len h =
      listed_same _ _ n.height
      (λ y b. part_same xs ys (y * pitch n) (row_length n) len
      (λ j d l.
      let c = n.channels in
      let p = positive j n.width c l in
      let x = j / c in
      let i = mod-lt j p in
      let e : y * pitch n + j ≡ place n x y + j % c = omega (arith, div-add-mod' j c) in
      ap (λ k. get_or xs k d) e
      ∙ (sym (element n xs x y (j % c) d i)
      ∙ (ap (λ q. get_or q (j % c) d) (h x y (div_below j c n.width p l) b)
      ∙ (element n ys x y (j % c) d i ∙ ap (λ k. get_or ys k d) (sym e))))))

  -- at any two stores
  pub images : (s t : Store E) → s.numbers ≡ t.numbers → length s.elements ≡ length t.elements → ((x y : ℕ) → x < s.numbers.width → y < s.numbers.height → pixel s.numbers s.elements x y ≡ pixel t.numbers t.elements x y) → image s.numbers s.elements ≡ image t.numbers t.elements
  images s t p len h =
      image_same s.numbers s.elements t.elements len (λ x y a b. h x y a b ∙ ap (λ n. pixel n t.elements x y) (sym p))
      ∙ ap (λ n. image n t.elements) p
