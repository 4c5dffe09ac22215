-- An image laid into a window of a sheet shows in the window's pixels, and in nothing else of the sheet.
use Rattle.std.proofs.Common.{◌≡◌, ℕ, ◌+◌, ◌-◌, ◌*◌, ◌<◌, ◌≤◌, eqb, List, length, get_or, drop, sym, ap, ◌∙◌, subst, ap₂, inl, inr, add-mul, arith, rules}
use native.Mathlib.Nat.{sub-zero}
use Rattle.std.proofs.lemmas.List.{places, same_lists, get_or-drop, length-drop}
use Rattle.std.proofs.lemmas.Bool.{cases_lt, cond-false, ne_eqb}
use Rattle.image.specs.Rows.{part as part_of, put, row}
use Rattle.image.specs.declared.numbers.Numbers.{Numbers}
use Rattle.image.specs.Stores.{pitch, row_length, place, pixel, image_pixel, laid, LaidOn, part_numbers}
use Rattle.image.proofs.Granted.{Sound, placed}
use Rattle.image.proofs.Laid.{laid_on}
use Rattle.image.proofs.Puts.{length-put, get_or-put_below, get_or-put_in, get_or-put_above}
use Rattle.history.specs.Calls.{Window, Asked, Area, area}
use Rattle.history.specs.Calls.Window.{whole, part}
use Rattle.history.proofs.Allowed.{Inside, Allowed, window_numbers}

module _ {E : Type 0} where
  -- a sheet's elements with an image in a window: the window's rows begin at its corner
  abbrev pub stamped : Numbers → Window → List (List E) → List E → List E
  stamped n whole im xs = laid n im xs
  stamped n (part x y w h) im xs = put (place n x y) (laid (part_numbers n w h) im (drop (place n x y) xs)) xs

  -- The image lies on an area of the sheet, and on nothing else of it.
  pub record LaidIn (n : Numbers) (a : Area) (im : List (List E)) (xs ys : List E) : Type 0 where
    pub length_kept : length ys ≡ length xs
    pub pixels : (x y : ℕ) → Inside a x y → pixel n ys x y ≡ image_pixel n.channels im (x - a.left) (y - a.top)
    pub gaps : (k : ℕ) (d : E) → ((x y i : ℕ) → Inside a x y → i < n.channels → k ≡ place n x y + i → ⊥) → get_or ys k d ≡ get_or xs k d

  laid_whole : (n : Numbers) (im : List (List E)) (xs : List E) → LaidOn n im xs (laid n im xs) → LaidIn n (area n whole) im xs (laid n im xs)
  laid_whole n im xs l = record {
    length_kept = l.length_kept;
    pixels = λ x y i. l.pixels x y (omega (arith, i.right)) (omega (arith, i.bottom)) ∙ sym (ap₂ (image_pixel n.channels im) (sub-zero x) (sub-zero y));
    gaps = λ k d out. l.gaps k d (λ x y i a b c e. out x y i (record { left = omega arith; right = omega arith; top = omega arith; bottom = omega arith }) c e);
  }

  -- a part of what was written to the end
  part-put_rest : (off k m : ℕ) (zs xs : List E) → off + length zs ≡ length xs → part_of (off + k) m (put off zs xs) ≡ part_of k m zs
  part-put_rest off k m zs xs h = same_lists _ _ (search (rules, places)) (λ i d b. grind (arith, places))

  module _ (n : Numbers) (x₀ y₀ w h : ℕ) (im : List (List E)) (xs zs : List E) (apart : 0 < pitch n) (long : place n x₀ y₀ ≤ length xs) (l : LaidOn (part_numbers n w h) im (drop (place n x₀ y₀) xs) zs) where
    pitch_is : pitch (part_numbers n w h) ≡ pitch n
    pitch_is = cond-false (eqb (pitch n) 0) (w * n.channels) (pitch n) (ne_eqb (pitch n) 0 (λ e. omega arith))

    ends : place n x₀ y₀ + length zs ≡ length xs
    ends = omega (arith, l.length_kept, length-drop (place n x₀ y₀) xs)

    place_is : (u v : ℕ) → place n (x₀ + u) (y₀ + v) ≡ place n x₀ y₀ + place (part_numbers n w h) u v
    place_is u v = rw pitch_is (omega (arith, add-mul y₀ v (pitch n), add-mul x₀ u n.channels))

    pixel_is : (x y : ℕ) → Inside (area n (part x₀ y₀ w h)) x y → pixel n (put (place n x₀ y₀) zs xs) x y ≡ image_pixel n.channels im (x - x₀) (y - y₀)
    pixel_is x y i =
        let u = x - x₀ in
        let v = y - y₀ in
        let ex : x ≡ x₀ + u = omega (arith, i.left) in
        let ey : y ≡ y₀ + v = omega (arith, i.top) in
        ap₂ (λ a b. pixel n (put (place n x₀ y₀) zs xs) a b) ex ey
        ∙ (ap (λ k. part_of k n.channels (put (place n x₀ y₀) zs xs)) (place_is u v)
        ∙ (part-put_rest (place n x₀ y₀) (place (part_numbers n w h) u v) n.channels zs xs ends
        ∙ l.pixels u v (omega (arith, i.right, i.left)) (omega (arith, i.bottom, i.top))))

    gap_is : (k : ℕ) (d : E) → ((x y i : ℕ) → Inside (area n (part x₀ y₀ w h)) x y → i < n.channels → k ≡ place n x y + i → ⊥) → get_or (put (place n x₀ y₀) zs xs) k d ≡ get_or xs k d
    gap_is k d out =
        let off = place n x₀ y₀ in
        elim (cases_lt k off) [
          | inl low ↦ get_or-put_below off zs xs k d long low
          | inr high ↦
              elim (cases_lt k (off + length zs)) [
                | inl in-it ↦
                    let j = k - off in
                    let e : k ≡ off + j = omega arith in
                    ap (λ m. get_or (put off zs xs) m d) e
                    ∙ (get_or-put_in off zs xs j d long (omega arith)
                    ∙ (l.gaps j d
                    (λ u v i a b c q. out (x₀ + u) (y₀ + v) i
                    (record { left = omega arith; right = omega arith; top = omega arith; bottom = omega arith }) c
                    (e ∙ omega (arith, q, place_is u v)))
                    ∙ (get_or-drop off xs j d ∙ ap (λ m. get_or xs m d) (sym e))))
                | inr past ↦ get_or-put_above off zs xs k d (omega (arith, ends)) past
              ]
        ]

    laid_part : LaidIn n (area n (part x₀ y₀ w h)) im xs (put (place n x₀ y₀) zs xs)
    laid_part = record { length_kept = length-put (place n x₀ y₀) zs xs (omega (arith, ends)); pixels = pixel_is; gaps = gap_is }

  -- rows of the window's length, laid into a window that is allowed
  pub laid_in : (w : Window) (q : Asked) (im : List (List E)) (xs : List E) → Allowed q w → q.sheet_length ≡ length xs → ((y : ℕ) → y < (window_numbers q.sheet w).height → length (row im y) ≡ row_length (window_numbers q.sheet w)) → LaidIn q.sheet (area q.sheet w) im xs (stamped q.sheet w im xs)
  laid_in whole q im xs a e even =
      laid_whole q.sheet im xs (laid_on q.sheet im xs (subst (Sound q.sheet) e a.sheet) even)
  laid_in (part x y w h) q im xs a e even =
      let n = q.sheet in
      let p = placed n q.sheet_length x y w h a.sheet a.window in
      let s : Sound (part_numbers n w h) (length (drop (place n x y) xs)) = subst (Sound (part_numbers n w h)) (ap (λ k. k - place n x y) e ∙ sym (length-drop (place n x y) xs)) a.resample.target in
      laid_part n x y w h im xs _ p.apart (omega (arith, p.begins)) (laid_on (part_numbers n w h) im (drop (place n x y) xs) s even)
