-- Images without gaps of a plan's sizes pass every check of a resample.
use Rattle.std.proofs.Common.{◌≡◌, ℕ, ◌+◌, ◌-◌, ◌*◌, ◌^◌, ◌<◌, ◌≤◌, true, false, ◌||◌, eqb, ltb, List, length, refl, sym, ap, ◌∙◌, inl, inr, mul_assoc, mul_comm, mul-le-mul, mul-one, arith}
use Rattle.std.proofs.lemmas.Bool.Decides.{nat_tests}
use Rattle.std.proofs.lemmas.Bool.{cases_Bool}
use Rattle.image.specs.Refusals.{answer}
use Rattle.image.specs.Refusals.Answer.{granted}
use Rattle.image.specs.Rows.{row}
use Rattle.image.specs.Stores.{store_checks, source_answer, target_answer, laid}
use Rattle.image.proofs.Full.{painted_full}
use Rattle.image.specs.declared.image_size.ImageSize.{ImageSize}
use Rattle.image.specs.declared.numbers.Numbers.{Numbers}
use Rattle.convolution.specs.Meaning.{Meaning, Shaped}
use Rattle.planner.specs.declared.plan.ResamplingPlan.{ResamplingPlan}
use Rattle.planner.specs.Plan.{plan_work, plan_half}
use Rattle.planner.specs.Plans.{area}
use Rattle.planner.specs.Chains.{Dimensions}
use Rattle.planner.specs.Stages.{same_size}
use Rattle.history.specs.Calls.{Call, Request, work_size, half_size, match_answer, buffer_answer, answer_of, answer_to, plan_value}
use Rattle.history.specs.Calls.Window.{whole as entire}
use Rattle.values.proofs.Plans.{plan_sized}
use Rattle.resampling.specs.Seen.{request_of}
use Rattle.resampling.proofs.Resampled.{joined_three}
use Rattle.resampling.proofs.Packed.{packed_fits, rows_sized}
use Rattle.order.specs.Packed.{packed_numbers, plan_pixels}

area_rows : (w h c : ℕ) → w * h * c ≡ h * (w * c)
area_rows w h c = ap (λ k. k * c) (mul_comm w h) ∙ mul_assoc h w c

small_area : (c w h : ℕ) → c ≤ 4 → w ≤ 65535 → h ≤ 65535 → w * c * h ≤ 262140 * 65535
small_area c w h a b d = mul-le-mul (mul-le-mul b a) d

-- the checks, one after the other, over plain numbers
all_pass : (large c w h row all len : ℕ) → 0 < c → c ≤ 4 → 0 < w → 0 < h → row ≤ 9223372036854775807 → all ≤ 9223372036854775807 → w * c * h * 1 ≤ 9223372036854775807 → all ≤ len → row ≡ w * c → all ≡ w * c * (h - 1) + w * c
    → granted ≡ answer (store_checks large 1 (record { channels = c; width = w; height = h; stride = 0; bit_depth = 0 }) len)
all_pass large c w h row all len p q pw ph small whole bytes fits er ea =
    let a : (eqb c 0 || ltb 4 c) ≡ false = grind (arith, nat_tests) in
    let b : (eqb w 0 || eqb h 0) ≡ false = grind (arith, nat_tests) in
    let d : ltb (2 ^ 63 - 1) (w * c * h * 1) ≡ false = grind (arith, nat_tests) in
    let e : (ltb (2 ^ 63 - 1) (w * c) || ltb (2 ^ 63 - 1) ((w * c * (h - 1) + w * c) * 1)) ≡ false = let f = mul-one (w * c * (h - 1) + w * c) in grind (arith, nat_tests) in
    let g : ltb (w * c) (w * c) ≡ false = grind (arith, nat_tests) in
    let i : ltb len (w * c * (h - 1) + w * c) ≡ false = grind (arith, nat_tests) in
    rw (a, b, d, e, g, i)

pub packed_passes : (large c : ℕ) (s : ImageSize) (len : ℕ) → 0 < c → c ≤ 4 → Dimensions s → area c s ≤ len → granted ≡ answer (store_checks large 1 (packed_numbers c s) len)
packed_passes large c s len p q z fits =
    let w = s.width in
    let h = s.height in
    let row : w * c ≤ 262140 = mul-le-mul z.0.1 q in
    let all = small_area c w h q z.0.1 z.1.1 in
    let whole : w * h * c ≤ 4294836225 * 4 = mul-le-mul (mul-le-mul z.0.1 z.1.1) q in
    let least = packed_fits c s (area c s) z.1.0 (omega arith) in
    all_pass large c w h (w * c) (w * c * (h - 1) + w * c) len p q z.0.0 z.1.0 (omega arith) (omega (arith, least.within)) (omega (arith, mul-one (w * c * h))) (packed_fits c s len z.1.0 fits).within refl refl

pub matches : (r : Request) → granted ≡ match_answer r (packed_numbers r.channels r.target) (packed_numbers r.channels r.source)
unfolding match_answer
matches r =
    let same : (n : ℕ) → eqb n n ≡ true = λ n. grind (arith, nat_tests) in
    rw (same r.channels, same r.source.width, same r.source.height, same r.target.width, same r.target.height)

pub buffers_pass : (r : Request) (work first second : ℕ) → work_size r ≤ work → half_size r ≤ first → half_size r ≤ second → granted ≡ buffer_answer false r 0 work first second
unfolding buffer_answer
buffers_pass r work first second a b d =
    let p : ltb work (work_size r) ≡ false = grind (arith, nat_tests) in
    let q : ltb first (half_size r) ≡ false = grind (arith, nat_tests) in
    let s : ltb second (half_size r) ≡ false = grind (arith, nat_tests) in
    elim (cases_Bool (same_size r.source r.target)) [ inl e ↦ rw e | inr e ↦ rw (e, p, q, s) ]

module _ {F : Type 0} (m : Meaning ℕ) (p : ResamplingPlan ℕ F) (src pixels work first second : List ℕ) where
  -- the call of a plan on a source with these numbers
  abbrev pub packed_call : Numbers → Call ℕ
  packed_call n = record { meaning = m; request = request_of p; window = entire; source = record { numbers = n; elements = src }; work = work; first = first; second = second }

  module _ (n d : Numbers) (from : n ≡ packed_numbers p.channels p.source_size) (to : d ≡ packed_numbers p.channels p.target_size) (source : area p.channels p.source_size ≤ length src) (target : length pixels ≡ area p.channels p.target_size) where
    -- a resample between images without gaps of the plan's sizes is granted
    pub packed_granted : plan_work p ≤ length work → plan_half p ≤ length first → plan_half p ≤ length second
        → granted ≡ answer_to 1 false (packed_call n) (record { numbers = d; elements = pixels })
    unfolding answer_of source_answer target_answer
    packed_granted w x y =
        joined_three _ _ _ _ _
        (packed_passes 3 p.channels p.target_size (length pixels) p.pixels.0 p.pixels.1 p.sizes.1 (omega arith))
        (packed_passes 2 p.channels p.source_size (length src) p.pixels.0 p.pixels.1 p.sizes.0 source)
        (matches (request_of p))
        (buffers_pass (request_of p) (length work) (length first) (length second) w x y)
        ∙ (λ i. answer_to 1 false (packed_call (sym from i)) (record { numbers = sym to i; elements = pixels }))

    -- and it lays the plan's pixels
    pub packed_laid : Shaped m → laid d (plan_value (packed_call n) d.bit_depth) pixels ≡ plan_pixels m p src
    packed_laid shaped =
        let s = p.source_size in
        let t = p.target_size in
        let c = p.channels in
        let z = rows_sized src (s.width * c) (s.width * c) s.height (packed_fits c s (length src) p.sizes.0.1.0 source) in
        let v = plan_sized m c 0 shaped p.scaler s t _ (record { width = p.sizes.0.0.0; height = p.sizes.0.1.0 }) (record { width = p.sizes.1.0.0; height = p.sizes.1.1.0 }) z in
        (λ i. laid (to i) (plan_value (packed_call (from i)) (to i).bit_depth) pixels)
        ∙ painted_full pixels (t.width * c) _ t.height v.even (target ∙ area_rows t.width t.height c)
