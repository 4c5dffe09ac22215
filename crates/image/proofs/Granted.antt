-- What a granted check shows of a store and of a part of it.
use Rattle.std.proofs.Common.{◌≡◌, ℕ, ◌+◌, ◌-◌, ◌*◌, ◌^◌, ◌<◌, ◌≤◌, min, Bool, true, false, cond, not, ◌&&◌, ◌||◌, eqb, ltb, List, [], ◌∷◌, refl, ap, mul-le-mul_right, mul_comm, add-mul, mul-le-mul_left, mul-add, le-mul_of_pos_right, arith}
use Rattle.std.proofs.lemmas.Bool.Decides.{nat_tests}
use Rattle.image.specs.Refusals.{Answer, Check, answer, and_then}
use Rattle.image.specs.Refusals.Answer.{granted, refused}
use Rattle.image.specs.declared.numbers.Numbers.{Numbers}
use Rattle.image.specs.declared.image_size.ImageSize.{ImageSize}
use Rattle.image.specs.declared.numbers.Part.{Part}
use Rattle.image.specs.Stores.{size_of, pitch, row_length, needed, place, byte_limit, store_checks, part_checks, part_numbers, source_answer, target_answer, part_answer, same_checks, same_answer}

-- each condition of a list fails
abbrev pub Clear : List Check → Type 0
Clear [] = Unit {0}
Clear (r ∷ rs) = (r.holds ≡ false) × Clear rs

clear_step : (t : Bool) (n : ℕ) (vs : List ℕ) (p : Answer) (Q : Type 0) → (granted ≡ p → Q) → granted ≡ cond t (refused n vs) p → (t ≡ false) × Q
clear_step true n vs p Q k e = let z : ◌≡◌ {A = ℕ} 0 1 = cc in absurd (omega arith)
clear_step false n vs p Q k e = (refl, k e)

pub clear : (rs : List Check) → granted ≡ answer rs → Clear rs
clear [] e = tt
clear (r ∷ rs) e = clear_step r.holds r.number r.values (answer rs) (Clear rs) (λ h. clear rs h) e

-- both parts of a joined answer are granted
pub both_granted : (a b : Answer) → granted ≡ and_then a b → (granted ≡ a) × (granted ≡ b)
both_granted granted b e = (refl, e)
both_granted (refused n vs) b e = let z : ◌≡◌ {A = ℕ} 0 1 = cc in absurd (omega arith)

-- a store that passes its check
pub record Sound (n : Numbers) (len : ℕ) : Type 0 where
  pub some_channels : 0 < n.channels
  pub few_channels : n.channels ≤ 4
  pub some_width : 0 < n.width
  pub some_height : 0 < n.height
  pub wide : row_length n ≤ pitch n
  pub short : pitch n ≤ byte_limit
  pub fits : needed n ≤ len

of_channels : (c : ℕ) → (eqb c 0 || ltb 4 c) ≡ false → (0 < c) × (c ≤ 4)
of_channels c e = (grind (arith, nat_tests), grind (arith, nat_tests))

of_size : (w h : ℕ) → (eqb w 0 || eqb h 0) ≡ false → (0 < w) × (0 < h)
of_size w h e = (grind (arith, nat_tests), grind (arith, nat_tests))

pub at_most : (a b : ℕ) → ltb a b ≡ false → b ≤ a
at_most a b e = grind (arith, nat_tests)

first_at_most : (l a b : ℕ) → (ltb l a || ltb l b) ≡ false → a ≤ l
first_at_most l a b e = grind (arith, nat_tests)

sound : (large e : ℕ) (n : Numbers) (len : ℕ) → granted ≡ answer (store_checks large e n len) → Sound n len
sound large e n len ok =
    let p : Clear (store_checks large e n len) = clear (store_checks large e n len) ok in
    let c = of_channels n.channels p.0 in
    let s = of_size n.width n.height p.1.0 in
    record {
      some_channels = c.0;
      few_channels = c.1;
      some_width = s.0;
      some_height = s.1;
      short = first_at_most byte_limit (pitch n) (needed n * e) p.1.1.1.0;
      wide = at_most _ _ p.1.1.1.1.0;
      fits = at_most _ _ p.1.1.1.1.1.0;
    }

pub source_sound : (e : ℕ) (n : Numbers) (len : ℕ) → granted ≡ source_answer e n len → Sound n len
unfolding source_answer
source_sound e n len ok = sound 2 e n len ok

pub target_sound : (e : ℕ) (n : Numbers) (len : ℕ) → granted ≡ target_answer e n len → Sound n len
unfolding target_answer
target_sound e n len ok = sound 3 e n len ok

-- the pitch of such a store is below the largest number
pub exact_pitch : (n : Numbers) (len p : ℕ) → Sound n len → p ≡ min (pitch n) (2 ^ 64 - 1) → p ≡ pitch n
exact_pitch n len p a e = omega (arith, a.short)

-- and then a part has the numbers defined
pub part_is : (n m : Numbers) (len w h : ℕ) → Sound n len → m ≡ record { channels = n.channels; width = w; height = h; stride = min (pitch n) (2 ^ 64 - 1); bit_depth = n.bit_depth } → m ≡ part_numbers n w h
part_is n m len w h a e = rw e (ap (λ p. record { channels = n.channels; width = w; height = h; stride = p; bit_depth = n.bit_depth }) (exact_pitch n len (min (pitch n) (2 ^ 64 - 1)) a refl))

-- a part that lies within an image
pub record Within (x y w h iw ih : ℕ) : Type 0 where
  pub across : x + w ≤ iw
  pub down : y + h ≤ ih
  pub some_width : 0 < w
  pub some_height : 0 < h

both_at_most : (a b c d : ℕ) → (ltb a b || ltb c d) ≡ false → (b ≤ a) × (d ≤ c)
both_at_most a b c d e = (grind (arith, nat_tests), grind (arith, nat_tests))

pub within : (x y w h iw ih : ℕ) → granted ≡ part_answer x y w h iw ih → Within x y w h iw ih
unfolding part_answer
within x y w h iw ih ok =
    let p : Clear (part_checks x y w h iw ih) = clear (part_checks x y w h iw ih) ok in
    let q = both_at_most iw (x + w) ih (y + h) p.0 in
    let s = of_size w h p.1.0 in
    record { across = q.0; down = q.1; some_width = s.0; some_height = s.1 }

-- where a part lies in the buffer of a sound store
pub record Placed (n : Numbers) (len x y w h : ℕ) : Type 0 where
  pub ends : place n x y + (pitch n * (h - 1) + w * n.channels) ≤ len
  pub row : row_length n ≤ len
  pub down : y * pitch n ≤ len
  pub across : x * n.channels ≤ len
  pub begins : place n x y ≤ len
  pub apart : 0 < pitch n

pub placed : (n : Numbers) (len x y w h : ℕ) → Sound n len → Within x y w h n.width n.height → Placed n len x y w h
placed n len x y w h a b =
    let t = pitch n in
    let c = n.channels in
    let below : y + (h - 1) ≤ n.height - 1 = omega (arith, b.down, b.some_height) in
    let down : t * (y + (h - 1)) ≤ t * (n.height - 1) = mul-le-mul_left t below in
    let across : (x + w) * c ≤ n.width * c = mul-le-mul_right c b.across in
    let f = a.fits in
    let ends : place n x y + (t * (h - 1) + w * c) ≤ len = omega (arith, mul-add t y (h - 1), add-mul x w c, mul_comm y t) in
    record {
      ends = ends;
      row = omega arith;
      down = omega arith;
      across = omega arith;
      begins = omega arith;
      apart = omega (arith, le-mul_of_pos_right n.width a.some_channels, a.some_width, a.wide);
    }

pub joined_granted : (a b : Answer) → granted ≡ a → granted ≡ b → granted ≡ and_then a b
joined_granted granted b p q = q
joined_granted (refused n vs) b p q = p

-- a granted part's numbers, and where it lies
pub record Cut (n : Numbers) (len : ℕ) (p : Part) (m : Numbers) : Type 0 where
  pub numbers : m ≡ part_numbers n p.width p.height
  pub lies : Placed n len p.x p.y p.width p.height
  pub begins : p.y * m.stride + p.x * m.channels ≡ place n p.x p.y

cut : (n : Numbers) (len : ℕ) (s : ImageSize) (p : Part) (m : Numbers) → Sound n len → s ≡ size_of n → granted ≡ part_answer p.x p.y p.width p.height s.width s.height → m ≡ record { channels = n.channels; width = p.width; height = p.height; stride = min (pitch n) (2 ^ 64 - 1); bit_depth = n.bit_depth } → Cut n len p m
cut n len s p m ok is within_it e =
    let same = part_is n m len p.width p.height ok e in
    record {
      numbers = same;
      lies = placed _ _ _ _ _ _ ok (within _ _ _ _ _ _ (rw is at within_it));
      begins = ap (λ (k : Numbers). p.y * k.stride + p.x * k.channels) same;
    }

-- of a source, and of a destination
pub source_cut : (e : ℕ) (n : Numbers) (len : ℕ) (s : ImageSize) (p : Part) (m : Numbers) → granted ≡ source_answer e n len → s ≡ size_of n → granted ≡ part_answer p.x p.y p.width p.height s.width s.height → m ≡ record { channels = n.channels; width = p.width; height = p.height; stride = min (pitch n) (2 ^ 64 - 1); bit_depth = n.bit_depth } → Cut n len p m
source_cut e n len s p m ok is within_it same = cut n len s p m (source_sound e n len ok) is within_it same

pub target_cut : (e : ℕ) (n : Numbers) (len : ℕ) (s : ImageSize) (p : Part) (m : Numbers) → granted ≡ target_answer e n len → s ≡ size_of n → granted ≡ part_answer p.x p.y p.width p.height s.width s.height → m ≡ record { channels = n.channels; width = p.width; height = p.height; stride = min (pitch n) (2 ^ 64 - 1); bit_depth = n.bit_depth } → Cut n len p m
target_cut e n len s p m ok is within_it same = cut n len s p m (target_sound e n len ok) is within_it same

-- a destination with the channels and the size of a source
pub record SameSize (d s : Numbers) : Type 0 where
  pub channels : d.channels ≡ s.channels
  pub width : d.width ≡ s.width
  pub height : d.height ≡ s.height

equal_channels : (a b : ℕ) → not (eqb a b) ≡ false → a ≡ b
equal_channels a b e = grind (arith, nat_tests)

equal_sizes : (a b c d : ℕ) → not (eqb a b && eqb c d) ≡ false → (a ≡ b) × (c ≡ d)
equal_sizes a b c d e = (grind (arith, nat_tests), grind (arith, nat_tests))

pub same_size : (d s : Numbers) → granted ≡ same_answer d s → SameSize d s
unfolding same_answer
same_size d s ok =
    let p : Clear (same_checks d s) = clear (same_checks d s) ok in
    let q = equal_sizes d.width s.width d.height s.height p.1.0 in
    record { channels = equal_channels d.channels s.channels p.0; width = q.0; height = q.1 }
