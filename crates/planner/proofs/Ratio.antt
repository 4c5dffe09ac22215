-- The ratio of one stage, from the float of a function's record. Assumes nothing.
use Rattle.std.proofs.Common.{◌≡◌, ℕ, ◌≤◌, cond, ltb, refl, ap, ◌∙◌, inl, inr, arith}
use lib.Ieee.{Float, of_bits, of_fields, lt, binary32}
use Rattle.std.proofs.lemmas.Bool.{cases_Bool, ltb-false}
use Rattle.sampler.specs.Functions.{size_of, float_of, filter_of, twice_ratio}
use Rattle.sampler.specs.declared.sampler.ResamplingFilter.{ResamplingFilter}
use Rattle.sampler.specs.declared.sampler.ResamplingFunction.{ResamplingFunction}
use Rattle.sampler.specs.declared.sampler.ResamplingFunction.TheVariants.{Bilinear}

-- twice the ratio, by comparing with 2, 3 and 4
abbrev pub by_float : Float → ℕ
by_float x =
    cond (lt x (of_bits binary32 0x40000000)) 3
    (cond (lt x (of_bits binary32 0x40400000)) 4 (cond (lt x (of_bits binary32 0x40800000)) 6 8))

-- by cases: the first clause names one, so that the second stands for each of the others
pub ratio : (f : ResamplingFunction) → by_float (float_of (size_of f)) ≡ twice_ratio f
unfolding of_bits of_fields lt
ratio Bilinear = refl
ratio f = refl

-- the same, from a function's record
pub by_record : (f : ResamplingFunction) (r : ResamplingFilter) → r ≡ filter_of f → by_float r.min_kernel_size ≡ twice_ratio f
by_record f r e = ap (λ (x : ResamplingFilter). by_float x.min_kernel_size) e ∙ ratio f

-- every ratio is at least 3/2
pub three : (f : ResamplingFunction) → 3 ≤ twice_ratio f
three f =
    elim (cases_Bool (ltb (size_of f) 2)) [
      | inl e ↦ rw e (omega arith)
      | inr e ↦ rw e (omega (arith, ltb-false (size_of f) 2 e))
    ]

-- and at most 4
pub eight : (f : ResamplingFunction) → twice_ratio f ≤ 8
eight f = elim (cases_Bool (ltb (size_of f) 2)) [ inl e ↦ rw e (omega arith) | inr e ↦ rw e (omega arith) ]
