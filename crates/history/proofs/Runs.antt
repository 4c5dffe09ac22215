-- Every list of calls has a run.
use Rattle.std.proofs.Common.{◌≡◌, ℕ, Bool, [], ◌∷◌, refl, ap}
use Rattle.image.specs.Refusals.{Answer}
use Rattle.image.specs.Refusals.Answer.{granted, refused}
use Rattle.convolution.specs.Meaning.{Shaped}
use Rattle.history.specs.Calls.{Call, Store, plan_value, answer_to, Step}
use Rattle.history.specs.Past.{Entry}
use Rattle.history.specs.Past.Past.{fresh, next}
use Rattle.history.specs.Promise.{RunsExist, Promise}
use Rattle.history.proofs.Windows.{stamped}
use Rattle.history.proofs.Steps.{granted_step, refused_step}
use Rattle.history.proofs.Laws.{no_wrong_pixel, runs_agree, exchange}
use Rattle.history.proofs.Unseen.{unseen}

module _ {E : Type 0} (size : ℕ) (deep : Bool) where
  step_exists : (c : Call E) (s : Store E) → Shaped c.meaning → (a : Answer) → a ≡ answer_to size deep c s → (t : Store E) × Step size deep c s a t
  step_exists c s shaped granted told = (
    record { numbers = s.numbers; elements = stamped s.numbers c.window (plan_value c s.numbers.bit_depth) s.elements },
    granted_step size deep c s _ shaped told refl refl,
  )
  step_exists c s shaped (refused n vs) told = (s, refused_step size deep c s s n vs told refl refl)

  pub runs_exist : RunsExist E size deep
  runs_exist made [] all = (made, ([], refl, fresh))
  runs_exist made (c ∷ cs) all =
      let r = runs_exist made cs all.1 in
      let s = r.0 in
      let a = answer_to size deep c s in
      let p = step_exists c s all.0 a refl in
      let e : Entry E = record { call = c; answer = a } in
      (p.0, (e ∷ r.1.0, ap (λ l. c ∷ l) r.1.1, next e r.1.2 p.1))

pub promise : (E : Type 0) → Promise E
promise E = record { exists = runs_exist; agree = runs_agree; no_wrong_pixel = no_wrong_pixel; exchange = exchange; unseen = unseen }
