-- What a look-up by place answers, and what a found function is.
use Rattle.std.proofs.Common.{◌≡◌, ℕ, Bool, true, false, cond, Option, Some, None, Result, Ok, Err, refl, arith}
use Rattle.std.specs.Prelude.{is_some, unwrap_or, ok_or, option_copied}
use denote.Bor.{Bor}

pub looked_up : {X E : Type 0} (o : Option (Bor X)) (p : Option X) (r : Result X E) (b : Bool) (d x : X) (e : E) → is_some o ≡ b → unwrap_or (option_copied o) d ≡ x → p ≡ option_copied o → r ≡ ok_or p e → r ≡ cond b (Ok x) (Err e)
looked_up (Some y) p r true d x e is at copied answered = cc
looked_up None p r false d x e is at copied answered = cc
looked_up (Some y) p r false d x e is at copied answered = cc
looked_up None p r true d x e is at copied answered = cc

pub found : {X : Type 0} (b : Bool) (x y : X) → Some x ≡ cond b (Some y) None → (b ≡ true) × (x ≡ y)
found true x y e = (refl, cc)
found false x y e = let z : ◌≡◌ {A = ℕ} 0 1 = cc in absurd (omega arith)

-- the same of a result
pub found_ok : {X E : Type 0} (b : Bool) (x y : X) (e : E) → Ok x ≡ cond b (Ok y) (Err e) → (b ≡ true) × (x ≡ y)
found_ok true x y e is = (refl, cc)
found_ok false x y e is = cc
