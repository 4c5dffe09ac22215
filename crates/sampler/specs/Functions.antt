-- The resampling functions: the place of each, and its record.
use Rattle.std.specs.Prelude.{ℕ, ◌*◌, min, Bool, true, false, cond, not, ◌||◌, List, [], ◌∷◌, ◌==◌, from_bits, nat_lt, slice_index_or, Float}
use Rattle.std.specs.Float.{binary32}
use Rattle.sampler.specs.declared.sampler.ResamplingFilter.{ResamplingFilter}
use Rattle.sampler.specs.declared.sampler.ResamplingFunction.{ResamplingFunction}
use Rattle.sampler.specs.declared.sampler.ResamplingFunction.TheVariants.{Bilinear, Nearest, Cubic, MitchellNetravalli, CatmullRom, Hermite, BSpline, Hann, Bicubic, Hamming, Hanning, EwaHanning, Blackman, EwaBlackman, Welch, Quadric, EwaQuadric, Gaussian, Sphinx, Bartlett, Robidoux, EwaRobidoux, RobidouxSharp, EwaRobidouxSharp, Spline16, Spline36, Spline64, Kaiser, BartlettHann, Box, Bohman, Lanczos2, Lanczos3, Lanczos4, Lanczos5, Lanczos6, Lanczos2Jinc, Lanczos3Jinc, Lanczos4Jinc, Lanczos5Jinc, Lanczos6Jinc, EwaLanczos3, Ginseng, EwaGinseng, EwaLanczosSharp, EwaLanczos4Sharpest, EwaLanczosSoft, HaasnSoft, Lagrange2, Lagrange3, EwaMitchellNetravalli, EwaCatmullRom, Area}

-- the enumeration
abbrev pub functions : List ResamplingFunction
functions =
    Bilinear ∷ Nearest ∷ Cubic ∷ MitchellNetravalli ∷ CatmullRom ∷ Hermite ∷ BSpline ∷ Hann
    ∷ Bicubic ∷ Hamming ∷ Hanning ∷ EwaHanning ∷ Blackman ∷ EwaBlackman ∷ Welch ∷ Quadric
    ∷ EwaQuadric ∷ Gaussian ∷ Sphinx ∷ Bartlett ∷ Robidoux ∷ EwaRobidoux ∷ RobidouxSharp ∷ EwaRobidouxSharp
    ∷ Spline16 ∷ Spline36 ∷ Spline64 ∷ Kaiser ∷ BartlettHann ∷ Box ∷ Bohman ∷ Lanczos2
    ∷ Lanczos3 ∷ Lanczos4 ∷ Lanczos5 ∷ Lanczos6 ∷ Lanczos2Jinc ∷ Lanczos3Jinc ∷ Lanczos4Jinc ∷ Lanczos5Jinc
    ∷ Lanczos6Jinc ∷ EwaLanczos3 ∷ Ginseng ∷ EwaGinseng ∷ EwaLanczosSharp ∷ EwaLanczos4Sharpest ∷ EwaLanczosSoft ∷ HaasnSoft
    ∷ Lagrange2 ∷ Lagrange3 ∷ EwaMitchellNetravalli ∷ EwaCatmullRom ∷ Area ∷ []

-- the function at a place of it
abbrev pub function_at : ℕ → ResamplingFunction
function_at n = slice_index_or functions n Bilinear

-- the place of a function
abbrev pub place : ResamplingFunction → ℕ
place Bilinear = 0
place Nearest = 1
place Cubic = 2
place MitchellNetravalli = 3
place CatmullRom = 4
place Hermite = 5
place BSpline = 6
place Hann = 7
place Bicubic = 8
place Hamming = 9
place Hanning = 10
place EwaHanning = 11
place Blackman = 12
place EwaBlackman = 13
place Welch = 14
place Quadric = 15
place EwaQuadric = 16
place Gaussian = 17
place Sphinx = 18
place Bartlett = 19
place Robidoux = 20
place EwaRobidoux = 21
place RobidouxSharp = 22
place EwaRobidouxSharp = 23
place Spline16 = 24
place Spline36 = 25
place Spline64 = 26
place Kaiser = 27
place BartlettHann = 28
place Box = 29
place Bohman = 30
place Lanczos2 = 31
place Lanczos3 = 32
place Lanczos4 = 33
place Lanczos5 = 34
place Lanczos6 = 35
place Lanczos2Jinc = 36
place Lanczos3Jinc = 37
place Lanczos4Jinc = 38
place Lanczos5Jinc = 39
place Lanczos6Jinc = 40
place EwaLanczos3 = 41
place Ginseng = 42
place EwaGinseng = 43
place EwaLanczosSharp = 44
place EwaLanczos4Sharpest = 45
place EwaLanczosSoft = 46
place HaasnSoft = 47
place Lagrange2 = 48
place Lagrange3 = 49
place EwaMitchellNetravalli = 50
place EwaCatmullRom = 51
place Area = 52

abbrev pub is_nearest : ResamplingFunction → Bool
is_nearest f = place f == 1

-- the kernel size of a function, a whole number
abbrev pub size_of : ResamplingFunction → ℕ
size_of Bilinear = 1
size_of Nearest = 1
size_of Cubic = 2
size_of MitchellNetravalli = 2
size_of CatmullRom = 2
size_of Hermite = 2
size_of BSpline = 2
size_of Hann = 3
size_of Bicubic = 2
size_of Hamming = 1
size_of Hanning = 2
size_of EwaHanning = 1
size_of Blackman = 2
size_of EwaBlackman = 2
size_of Welch = 2
size_of Quadric = 2
size_of EwaQuadric = 2
size_of Gaussian = 2
size_of Sphinx = 2
size_of Bartlett = 1
size_of Robidoux = 2
size_of EwaRobidoux = 2
size_of RobidouxSharp = 2
size_of EwaRobidouxSharp = 2
size_of Spline16 = 2
size_of Spline36 = 4
size_of Spline64 = 6
size_of Kaiser = 2
size_of BartlettHann = 2
size_of Box = 2
size_of Bohman = 2
size_of Lanczos2 = 2
size_of Lanczos3 = 3
size_of Lanczos4 = 4
size_of Lanczos5 = 5
size_of Lanczos6 = 6
size_of Lanczos2Jinc = 2
size_of Lanczos3Jinc = 3
size_of Lanczos4Jinc = 4
size_of Lanczos5Jinc = 5
size_of Lanczos6Jinc = 6
size_of EwaLanczos3 = 3
size_of Ginseng = 3
size_of EwaGinseng = 3
size_of EwaLanczosSharp = 3
size_of EwaLanczos4Sharpest = 4
size_of EwaLanczosSoft = 3
size_of HaasnSoft = 3
size_of Lagrange2 = 2
size_of Lagrange3 = 3
size_of EwaMitchellNetravalli = 2
size_of EwaCatmullRom = 2
size_of Area = 2

-- the functions that weigh by the distance in both axes at once
abbrev pub ewa_of : ResamplingFunction → Bool
ewa_of Bilinear = false
ewa_of Nearest = false
ewa_of Cubic = false
ewa_of MitchellNetravalli = false
ewa_of CatmullRom = false
ewa_of Hermite = false
ewa_of BSpline = false
ewa_of Hann = false
ewa_of Bicubic = false
ewa_of Hamming = false
ewa_of Hanning = false
ewa_of EwaHanning = true
ewa_of Blackman = false
ewa_of EwaBlackman = true
ewa_of Welch = false
ewa_of Quadric = false
ewa_of EwaQuadric = true
ewa_of Gaussian = false
ewa_of Sphinx = false
ewa_of Bartlett = false
ewa_of Robidoux = false
ewa_of EwaRobidoux = true
ewa_of RobidouxSharp = false
ewa_of EwaRobidouxSharp = true
ewa_of Spline16 = false
ewa_of Spline36 = false
ewa_of Spline64 = false
ewa_of Kaiser = false
ewa_of BartlettHann = false
ewa_of Box = false
ewa_of Bohman = false
ewa_of Lanczos2 = false
ewa_of Lanczos3 = false
ewa_of Lanczos4 = false
ewa_of Lanczos5 = false
ewa_of Lanczos6 = false
ewa_of Lanczos2Jinc = false
ewa_of Lanczos3Jinc = false
ewa_of Lanczos4Jinc = false
ewa_of Lanczos5Jinc = false
ewa_of Lanczos6Jinc = false
ewa_of EwaLanczos3 = true
ewa_of Ginseng = false
ewa_of EwaGinseng = true
ewa_of EwaLanczosSharp = true
ewa_of EwaLanczos4Sharpest = true
ewa_of EwaLanczosSoft = true
ewa_of HaasnSoft = false
ewa_of Lagrange2 = false
ewa_of Lagrange3 = false
ewa_of EwaMitchellNetravalli = true
ewa_of EwaCatmullRom = true
ewa_of Area = false

-- the functions whose kernel does not widen when an image shrinks
abbrev pub fixed_of : ResamplingFunction → Bool
fixed_of f = place f == 24 || place f == 25 || place f == 26

abbrev pub area_of : ResamplingFunction → Bool
area_of f = place f == 52

-- the whole numbers 1 to 6 as 32-bit floats, by their bits
abbrev pub float_of : ℕ → Float
float_of n =
    cond (n == 1) (from_bits binary32 0x3f800000)
    (cond (n == 2) (from_bits binary32 0x40000000)
    (cond (n == 3) (from_bits binary32 0x40400000)
    (cond (n == 4) (from_bits binary32 0x40800000)
    (cond (n == 5) (from_bits binary32 0x40a00000) (from_bits binary32 0x40c00000)))))

abbrev pub filter_of : ResamplingFunction → ResamplingFilter
filter_of f = record {
  kernel = f;
  min_kernel_size = float_of (size_of f);
  is_ewa = ewa_of f;
  is_resizable_kernel = not (fixed_of f);
  is_area = area_of f;
}

-- twice the largest ratio of one stage of enlarging: 3/2 below a kernel size of 2, and else that size, at most 4
abbrev pub twice_ratio : ResamplingFunction → ℕ
twice_ratio f = cond (nat_lt (size_of f) 2) 3 (2 * min (size_of f) 4)
