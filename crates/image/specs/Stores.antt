-- Stores: their numbers, their pixels, and the checks on them.
use Rattle.std.specs.Prelude.{◌≡◌, ℕ, ◌+◌, ◌-◌, ◌*◌, ◌^◌, ◌<◌, cond, not, ◌&&◌, ◌||◌, List, [], ◌∷◌, length, ◌==◌, ◌≢◌, nat_lt, slice_index_or}
use Rattle.image.specs.declared.numbers.Numbers.{Numbers}
use Rattle.image.specs.declared.image_size.ImageSize.{ImageSize}
use Rattle.image.specs.declared.image_store.ImageStore.{ImageStore}
use Rattle.image.specs.declared.image_store.ImageStoreMut.{ImageStoreMut}
use Rattle.image.specs.Refusals.{Answer, Check, check, answer, and_then}
use Rattle.image.specs.Rows.{part, rows, painted, row}

-- the elements from one row's start to the next: a stride of 0 means rows without gaps
abbrev pub pitch : Numbers → ℕ
pitch n = cond (n.stride == 0) (n.width * n.channels) n.stride

-- the size of a store
abbrev pub size_of : Numbers → ImageSize
size_of n = record { width = n.width; height = n.height }

-- the elements of one row
abbrev pub row_length : Numbers → ℕ
row_length n = n.width * n.channels

-- the elements from the first to the end of the last row
abbrev pub needed : Numbers → ℕ
needed n = pitch n * (n.height - 1) + row_length n

-- where the pixel in column x of row y begins
abbrev pub place : Numbers → ℕ → ℕ → ℕ
place n x y = y * pitch n + x * n.channels

-- the largest size in bytes
abbrev pub byte_limit : ℕ
byte_limit = 2 ^ 63 - 1

-- The store check, of a buffer of len elements of e bytes each; large is the number of the too-large refusal.
abbrev pub store_checks : ℕ → ℕ → Numbers → ℕ → List Check
store_checks large e n len =
    check (n.channels == 0 || nat_lt 4 n.channels) 12 (n.channels ∷ [])
    ∷ check (n.width == 0 || n.height == 0) 1 []
    ∷ check (nat_lt byte_limit (n.width * n.channels * n.height * e)) large []
    ∷ check (nat_lt byte_limit (pitch n) || nat_lt byte_limit (needed n * e)) large []
    ∷ check (nat_lt (pitch n) (row_length n)) 5 (row_length n ∷ pitch n ∷ [])
    ∷ check (nat_lt len (needed n)) 4 (needed n ∷ n.width ∷ n.height ∷ n.channels ∷ len ∷ [])
    ∷ []

-- a source's check, and a destination's
unfoldable pub source_answer : ℕ → Numbers → ℕ → Answer
source_answer e n len = answer (store_checks 2 e n len)

unfoldable pub target_answer : ℕ → Numbers → ℕ → Answer
target_answer e n len = answer (store_checks 3 e n len)

-- a part of an image, w by h pixels from column x of row y on
abbrev pub part_checks : ℕ → ℕ → ℕ → ℕ → ℕ → ℕ → List Check
part_checks x y w h iw ih =
    check (nat_lt iw (x + w) || nat_lt ih (y + h)) 11 (x ∷ y ∷ w ∷ h ∷ iw ∷ ih ∷ [])
    ∷ check (w == 0 || h == 0) 1 []
    ∷ []

unfoldable pub part_answer : ℕ → ℕ → ℕ → ℕ → ℕ → ℕ → Answer
part_answer x y w h iw ih = answer (part_checks x y w h iw ih)

-- the numbers of such a part: it shares the image's stride, channels and depth
abbrev pub part_numbers : Numbers → ℕ → ℕ → Numbers
part_numbers n w h = record { channels = n.channels; width = w; height = h; stride = pitch n; bit_depth = n.bit_depth }

-- the answer of a crop of a source
abbrev pub crop_answer : ℕ → Numbers → ℕ → ℕ → ℕ → ℕ → ℕ → Answer
crop_answer e n len x y w h = and_then (source_answer e n len) (part_answer x y w h n.width n.height)

-- a copy of a source's pixels: the destination has the source's channels and size
abbrev pub same_checks : Numbers → Numbers → List Check
same_checks d s =
    check (not (d.channels == s.channels)) 13 (s.channels ∷ d.channels ∷ [])
    ∷ check (not (d.width == s.width && d.height == s.height)) 10 (s.width ∷ s.height ∷ d.width ∷ d.height ∷ [])
    ∷ []

unfoldable pub same_answer : Numbers → Numbers → Answer
same_answer d s = answer (same_checks d s)

abbrev pub copy_answer : ℕ → Numbers → ℕ → Numbers → ℕ → Answer
copy_answer e d d_len s s_len = and_then (target_answer e d d_len) (and_then (source_answer e s s_len) (same_answer d s))

module _ {E : Type 0} where
  -- the pixels of a store, row by row
  abbrev pub image : Numbers → List E → List (List E)
  image n xs = rows xs (row_length n) (pitch n) n.height

  -- a buffer with an image in the rows of a store over it
  abbrev pub laid : Numbers → List (List E) → List E → List E
  laid n im xs = painted xs (pitch n) (λ y. row im y) n.height

  -- the pixel in column x of row y of a store, and of an image
  abbrev pub pixel : Numbers → List E → ℕ → ℕ → List E
  pixel n xs x y = part (place n x y) n.channels xs

  abbrev pub image_pixel : ℕ → List (List E) → ℕ → ℕ → List E
  image_pixel c im x y = part (x * c) c (row im y)

  -- The image lies on the buffer, and on nothing else of it: xs before, ys after.
  pub record LaidOn (n : Numbers) (im : List (List E)) (xs ys : List E) : Type 0 where
    pub length_kept : length ys ≡ length xs
    -- every pixel is the image's
    pub pixels : (x y : ℕ) → x < n.width → y < n.height → pixel n ys x y ≡ image_pixel n.channels im x y
    -- every element that is in no pixel is as it was
    pub gaps : (k : ℕ) (d : E) → ((x y i : ℕ) → x < n.width → y < n.height → i < n.channels → k ≢ place n x y + i) → slice_index_or ys k d ≡ slice_index_or xs k d

module _ {T : Type 0} where
  -- the elements of the two kinds of store
  abbrev pub elements : ImageStore T → List T
  elements s = s.buffer.now

  abbrev pub elements_mut : ImageStoreMut T → List T
  elements_mut s = s.buffer.now
