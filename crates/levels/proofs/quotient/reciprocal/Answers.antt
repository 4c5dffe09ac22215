use Rattle.std.proofs.Common.{◌≡◌, ℕ, ◌+◌, ◌-◌, ◌*◌, ◌/◌, ◌%◌, true, false, ltb, sym, refl, ap, ◌∙◌, add-mul, one-mul, arith}
use Rattle.std.proofs.lemmas.Nat.{mod_below, div-mul-add, div-add-mod'}
use Rattle.std.proofs.lemmas.Bool.Decides.{nat_tests}
use Rattle.levels.specs.Quotients.{reciprocal}
use Rattle.levels.proofs.quotient.reciprocal.Goals as goal

pub returns-then-d-lt2 : goal.returns-then-d-lt2
unfolding reciprocal
returns-then-d-lt2 c = let none : ltb 1 c.args.d ≡ false = grind (arith, nat_tests) in rw none refl

pub returns-else-d-lt2 : goal.returns-else-d-lt2
unfolding reciprocal
returns-else-d-lt2 c =
    let d = c.args.d in
    let there : ltb 1 d ≡ true = grind (arith, nat_tests) in
    let most : ℕ = 18446744073709551615 in
    let parted : 18446744073709551616 + d - 1 ≡ (most / d + 1) * d + most % d = omega (arith, div-add-mod' most d, add-mul (most / d) 1 d, one-mul d) in
    rw there (sym (ap (λ z. z / d) parted ∙ div-mul-add (most / d + 1) d (most % d) (mod_below most d (omega arith))))
