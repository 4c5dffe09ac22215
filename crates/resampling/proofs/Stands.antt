-- A call that is a step extends every past of its sheet, and what holds of pasts holds after it.
use Rattle.std.proofs.Common.{◌≡◌, ℕ, ◌-◌, Bool, false, cond, List, ◌∷◌, length, take, drop, is_ok, Ok, Err, Result, ap, ◌∙◌, arith, length-drop, take_all}
use borrow.Rule.Slice.PartMut.{put_mid, put_same}
use Rattle.image.specs.declared.validation.PicScaleError.{PicScaleError}
use Rattle.image.specs.Refusals.{Answer, reply, and_then}
use Rattle.image.specs.Refusals.Answer.{granted, refused}
use Rattle.image.specs.Rows.{put}
use Rattle.image.specs.declared.numbers.Numbers.{Numbers}
use Rattle.image.specs.declared.numbers.Part.{Part}
use Rattle.image.specs.Stores.{place, laid, part_numbers}
use Rattle.image.proofs.Paint.{put_mid-put}
use Rattle.history.specs.Calls.{Call, Store, is_granted, Step}
use Rattle.history.specs.Past.{Entry, Past, Upheld}
use Rattle.history.specs.Past.Past.{next}
use Rattle.history.proofs.Runs.{promise}

module _ {E : Type 0} (size : ℕ) (deep : Bool) (c : Call E) (s t : Store E) (a : Answer) (st : Step size deep c s a t) where
  pub extends : (made : Store E) (es : List (Entry E)) → Past size deep made es s → Past size deep made (record { call = c; answer = a } ∷ es) t
  extends made es p = next _ p st

  pub upholds : (made : Store E) (es : List (Entry E)) → Past size deep made es s → Upheld size deep made (record { call = c; answer = a } ∷ es) t
  upholds made es p = (promise E).no_wrong_pixel size deep made t _ (extends made es p)

pub first_refused : (n : ℕ) (vs : List ℕ) (a b : Answer) → refused n vs ≡ a → refused n vs ≡ and_then a b
first_refused n vs granted b e = let z : ◌≡◌ {A = ℕ} 0 1 = cc in absurd (omega arith)
first_refused n vs (refused m us) b e = e

pub second_refused : (n : ℕ) (vs : List ℕ) (a b d : Answer) → granted ≡ a → refused n vs ≡ b → refused n vs ≡ and_then a (and_then b d)
second_refused n vs granted b d p e = first_refused n vs b d e
second_refused n vs (refused m us) b d p e = let z : ◌≡◌ {A = ℕ} 0 1 = cc in absurd (omega arith)

pub joined_two : (a b x d : Answer) → granted ≡ a → granted ≡ b → x ≡ d → x ≡ and_then a (and_then b d)
joined_two granted granted x d p q e = e
joined_two (refused n vs) b x d p q e = let z : ◌≡◌ {A = ℕ} 0 1 = cc in absurd (omega arith)
joined_two granted (refused n vs) x d p q e = let z : ◌≡◌ {A = ℕ} 0 1 = cc in absurd (omega arith)

module _ {X : Type 0} where
  pub where_granted : (r : Result (Unit {0}) PicScaleError) (zs a b : List X) → zs ≡ cond (is_ok r) a b → granted ≡ reply r → zs ≡ a
  where_granted (Ok u) zs a b e g = e
  where_granted (Err f) zs a b e g = let z : ◌≡◌ {A = ℕ} 0 1 = cc in absurd (omega arith)

  pub where_refused : (r : Result (Unit {0}) PicScaleError) (zs a b : List X) → zs ≡ cond (is_ok r) a b → is_granted (reply r) ≡ false → zs ≡ b
  where_refused (Ok u) zs a b e g = let z : ◌≡◌ {A = ℕ} 0 1 = cc in absurd (omega arith)
  where_refused (Err f) zs a b e g = e

  -- a sheet after a granted call on the part of its buffer from a window's corner on
  pub window_laid : (n m : Numbers) (xs ys : List X) (im : List (List X)) (p : Part) (off k : ℕ) → m ≡ part_numbers n p.width p.height → off ≡ place n p.x p.y → k ≡ length xs - off → k ≡ length ys
      → ys ≡ laid m im (take k (drop off xs))
      → put_mid off k xs ys ≡ put (place n p.x p.y) (laid (part_numbers n p.width p.height) im (drop (place n p.x p.y) xs)) xs
  window_laid n m xs ys im p off k em eo ek el e =
      let all : take k (drop off xs) ≡ drop off xs = take_all k (drop off xs) (omega (arith, length-drop off xs)) in
      put_mid-put off k xs ys el
      ∙ (ap (λ zs. put off zs xs) (e ∙ ap (laid m im) all)
      ∙ (λ i. put (eo i) (laid (em i) im (drop (eo i) xs)) xs))

  pub window_kept : (off k : ℕ) (xs ys : List X) → ys ≡ take k (drop off xs) → put_mid off k xs ys ≡ xs
  window_kept off k xs ys e = ap (put_mid off k xs) e ∙ put_same off k xs
