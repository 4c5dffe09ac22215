-- What an operation answers: granted, or a refusal by its number with the values that it carries.
use Rattle.std.specs.Prelude.{ℕ, Bool, cond, List, [], ◌∷◌, Ok, Err, Result}
use Rattle.image.specs.declared.validation.PicScaleError.{PicScaleError}
use Rattle.image.specs.declared.validation.PicScaleError.TheVariants.{ZeroImageDimensions, SourceImageIsTooLarge, DestinationImageIsTooLarge, BufferMismatch, InvalidStride, UnsupportedBitDepth, UnknownResizingFilter, InvalidScratchSize, InvalidSourceSize, InvalidDestinationSize, CropOutOfBounds, ChannelCount, ChannelMismatch, DimensionLimit, OrderShort, OrderForm, OrderTooLarge, OutOfMemory}

pub data Answer : Type 0 where
  granted : Answer
  refused : ℕ → List ℕ → Answer

-- each case of the error by its number
abbrev pub number_of : PicScaleError → ℕ
number_of ZeroImageDimensions = 1
number_of SourceImageIsTooLarge = 2
number_of DestinationImageIsTooLarge = 3
number_of (BufferMismatch e w h c n) = 4
number_of (InvalidStride a b) = 5
number_of (UnsupportedBitDepth d) = 6
number_of UnknownResizingFilter = 7
number_of (InvalidScratchSize e s) = 8
number_of (InvalidSourceSize e s) = 9
number_of (InvalidDestinationSize e s) = 10
number_of (CropOutOfBounds x y w h iw ih) = 11
number_of (ChannelCount c) = 12
number_of (ChannelMismatch e c) = 13
number_of (DimensionLimit v) = 14
number_of OrderShort = 15
number_of OrderForm = 16
number_of OrderTooLarge = 17
number_of OutOfMemory = 100

-- and by the values that it carries
abbrev pub values_of : PicScaleError → List ℕ
values_of ZeroImageDimensions = []
values_of SourceImageIsTooLarge = []
values_of DestinationImageIsTooLarge = []
values_of (BufferMismatch e w h c n) = e ∷ w ∷ h ∷ c ∷ n ∷ []
values_of (InvalidStride a b) = a ∷ b ∷ []
values_of (UnsupportedBitDepth d) = d ∷ []
values_of UnknownResizingFilter = []
values_of (InvalidScratchSize e s) = e ∷ s ∷ []
values_of (InvalidSourceSize e s) = e.width ∷ e.height ∷ s.width ∷ s.height ∷ []
values_of (InvalidDestinationSize e s) = e.width ∷ e.height ∷ s.width ∷ s.height ∷ []
values_of (CropOutOfBounds x y w h iw ih) = x ∷ y ∷ w ∷ h ∷ iw ∷ ih ∷ []
values_of (ChannelCount c) = c ∷ []
values_of (ChannelMismatch e c) = e ∷ c ∷ []
values_of (DimensionLimit v) = v ∷ []
values_of OrderShort = []
values_of OrderForm = []
values_of OrderTooLarge = []
values_of OutOfMemory = []

-- what a caller is told
abbrev pub reply : {X : Type 0} → Result X PicScaleError → Answer
reply (Ok x) = granted
reply (Err f) = refused (number_of f) (values_of f)

-- a condition, and the refusal that comes where it holds and none earlier does
pub record Check : Type 0 where
  pub holds : Bool
  pub number : ℕ
  pub values : List ℕ

abbrev pub check : Bool → ℕ → List ℕ → Check
check b n vs = record { holds = b; number = n; values = vs }

-- the refusal of the first check that holds, or granted
abbrev pub answer : List Check → Answer
answer [] = granted
answer (c ∷ cs) = cond c.holds (refused c.number c.values) (answer cs)

-- the first answer where it refuses, else the second
abbrev pub and_then : Answer → Answer → Answer
and_then granted b = b
and_then (refused n vs) b = refused n vs
