-- What a granted call shows of the sheet, the source and the window.
use Rattle.std.proofs.Common.{◌≡◌, ℕ, ◌+◌, ◌-◌, ◌<◌, ◌≤◌, Bool, true, false, not, ◌&&◌, eqb, ltb, leb, length, refl, arith}
use Rattle.std.proofs.lemmas.Bool.{and_parts, leb-true, ltb-true, false≢true}
use Rattle.std.proofs.lemmas.Bool.Decides.{nat_tests}
use Rattle.image.specs.Refusals.{Answer}
use Rattle.image.specs.Refusals.Answer.{granted, refused}
use Rattle.image.specs.declared.numbers.Numbers.{Numbers}
use Rattle.image.specs.Stores.{pitch, row_length, place, part_numbers}
use Rattle.image.proofs.Granted.{Clear, clear, both_granted, Sound, source_sound, target_sound, Within, within}
use Rattle.history.specs.Calls.{Request, Window, Asked, Call, Store, Area, area, covers, asked, match_checks, match_answer, resample_answer, answer_by, answer_of, answer_to, is_granted, over}
use Rattle.history.specs.Calls.Window.{whole, part}

-- source and destination are those of the plan
pub record Matched (r : Request) (d s : Numbers) : Type 0 where
  pub channels : d.channels ≡ r.channels
  pub source_channels : s.channels ≡ r.channels
  pub source_width : s.width ≡ r.source.width
  pub source_height : s.height ≡ r.source.height
  pub width : d.width ≡ r.target.width
  pub height : d.height ≡ r.target.height

one_equal : (a b : ℕ) → not (eqb a b) ≡ false → a ≡ b
one_equal a b e = grind (arith, nat_tests)

two_equal : (a b c d : ℕ) → not (eqb a b && eqb c d) ≡ false → (a ≡ b) × (c ≡ d)
two_equal a b c d e = (grind (arith, nat_tests), grind (arith, nat_tests))

pub matched : (r : Request) (d s : Numbers) → granted ≡ match_answer r d s → Matched r d s
unfolding match_answer
matched r d s ok =
    let p : Clear (match_checks r d s) = clear (match_checks r d s) ok in
    let u = two_equal s.width r.source.width s.height r.source.height p.1.1.0 in
    let v = two_equal d.width r.target.width d.height r.target.height p.1.1.1.0 in
    record {
      channels = one_equal d.channels r.channels p.0;
      source_channels = one_equal s.channels r.channels p.1.0;
      source_width = u.0;
      source_height = u.1;
      width = v.0;
      height = v.1;
    }

-- a resample that is granted: d is the destination, of len elements
pub record Resampled (q : Asked) (d : Numbers) (len : ℕ) : Type 0 where
  pub target : Sound d len
  pub source : Sound q.source q.source_length
  pub matched : Matched q.request d q.source

-- the destination of a window, and how many elements of a sheet's are its
abbrev pub window_numbers : Numbers → Window → Numbers
window_numbers n whole = n
window_numbers n (part x y w h) = part_numbers n w h

abbrev pub window_place : Numbers → Window → ℕ
window_place n whole = 0
window_place n (part x y w h) = place n x y

abbrev pub window_length : Numbers → Window → ℕ → ℕ
window_length n whole len = len
window_length n (part x y w h) len = len - place n x y

-- a window that lies on the sheet, and a resample into it
pub record Allowed (q : Asked) (w : Window) : Type 0 where
  pub sheet : Sound q.sheet q.sheet_length
  pub window : Within (area q.sheet w).left (area q.sheet w).top (area q.sheet w).width (area q.sheet w).height q.sheet.width q.sheet.height
  pub resample : Resampled q (window_numbers q.sheet w) (window_length q.sheet w q.sheet_length)

module _ (size : ℕ) (deep : Bool) where
  pub resampled : (q : Asked) (d : Numbers) (len : ℕ) → granted ≡ resample_answer size deep q d len → Resampled q d len
  resampled q d len ok =
      let a = both_granted _ _ ok in
      let b = both_granted _ _ a.1 in
      let c = both_granted _ _ b.1 in
      record { target = target_sound _ _ _ a.0; source = source_sound _ _ _ b.0; matched = matched _ _ _ c.0 }

  pub allowed_by : (w : Window) (q : Asked) → granted ≡ answer_by size deep w q → Allowed q w
  allowed_by whole q ok =
      let r = resampled q q.sheet q.sheet_length ok in
      let a : Sound q.sheet q.sheet_length = r.target in
      record {
        sheet = a;
        window = record { across = omega arith; down = omega arith; some_width = a.some_width; some_height = a.some_height };
        resample = r;
      }
  allowed_by (part x y w h) q ok =
      let a = both_granted _ _ ok in
      let b = both_granted _ _ a.1 in
      record {
        sheet = target_sound _ _ _ a.0;
        window = within _ _ _ _ _ _ b.0;
        resample = resampled q _ _ b.1;
      }

  pub allowed : (q : Asked) → granted ≡ answer_of size deep q → Allowed q q.window
  unfolding answer_of
  allowed q ok = allowed_by q.window q ok

-- what a pixel that a call is over shows
pub record Fit (n : Numbers) (x y : ℕ) : Type 0 where
  pub some : 0 < n.channels
  pub fits : row_length n ≤ pitch n
  pub column : x < n.width
  pub row : y < n.height

-- a pixel of an area
pub record Inside (a : Area) (x y : ℕ) : Type 0 where
  pub left : a.left ≤ x
  pub right : x < a.left + a.width
  pub top : a.top ≤ y
  pub bottom : y < a.top + a.height

pub covered : (a : Area) (x y : ℕ) → covers a x y ≡ true → Inside a x y
covered a x y e =
    let p = and_parts (leb a.left x && ltb x (a.left + a.width)) (leb a.top y && ltb y (a.top + a.height)) e in
    let u = and_parts (leb a.left x) (ltb x (a.left + a.width)) p.0 in
    let v = and_parts (leb a.top y) (ltb y (a.top + a.height)) p.1 in
    record { left = leb-true _ _ u.0; right = ltb-true _ _ u.1; top = leb-true _ _ v.0; bottom = ltb-true _ _ v.1 }

pub granted_is : (a : Answer) → is_granted a ≡ true → granted ≡ a
granted_is granted e = refl
granted_is (refused n vs) e = absurd (false≢true e)

-- a call over a pixel is granted, and the pixel is in its window
pub record Over {E : Type 0} (size : ℕ) (deep : Bool) (c : Call E) (s : Store E) (x y : ℕ) : Type 0 where
  pub ok : granted ≡ answer_to size deep c s
  pub inside : Inside (area s.numbers c.window) x y

module _ {E : Type 0} (size : ℕ) (deep : Bool) where
  pub over_is : (c : Call E) (s : Store E) (x y : ℕ) → over size deep c s x y ≡ true → Over size deep c s x y
  unfolding over
  over_is c s x y e =
      let p = and_parts (is_granted (answer_to size deep c s)) (covers (area s.numbers c.window) x y) e in
      record { ok = granted_is _ p.0; inside = covered (area s.numbers c.window) x y p.1 }

  pub over_fit : (c : Call E) (s : Store E) (x y : ℕ) → over size deep c s x y ≡ true → Fit s.numbers x y
  over_fit c s x y e =
      let o = over_is c s x y e in
      let a = allowed size deep (asked c s.numbers (length s.elements)) o.ok in
      let i = o.inside in
      record {
        some = a.sheet.some_channels;
        fits = a.sheet.wide;
        column = omega (arith, i.right, a.window.across);
        row = omega (arith, i.bottom, a.window.down);
      }
