-- Calls in a row: those on a sheet that earlier calls left.
use Rattle.std.proofs.Common.{ℕ, ◌+◌, false, List, ◌++◌, length, refl, arith, length-append}
use Rattle.history.specs.Calls.{Store}
use Rattle.history.specs.Past.{Entry, Past}
use Rattle.history.specs.Past.Past.{fresh, next}
use Rattle.history.proofs.Laws.{no_wrong_pixel}
use Rattle.rate_sheet.specs.Sheets.{After}

pub since : {s t u : Store ℕ} {es fs : List (Entry ℕ)} → Past 1 false s es t → Past 1 false t fs u → Past 1 false s (fs ++ es) u
since p fresh = p
since p (next e q st) = next e (since p q) st

pub after : (s t : Store ℕ) (es : List (Entry ℕ)) → Past 1 false s es t → After (length es) s t
after s t es p = record { entries = es; counted = refl; past = p; upheld = no_wrong_pixel 1 false s t es p }

pub in_turn : {m n : ℕ} {s t u : Store ℕ} → After m s t → After n t u → After (m + n) s u
in_turn {s = s} {u = u} a b =
    let p = since a.past b.past in
    record {
      entries = b.entries ++ a.entries;
      counted = simp length-append (omega (arith, a.counted, b.counted));
      past = p;
      upheld = no_wrong_pixel 1 false s u (b.entries ++ a.entries) p;
    }
