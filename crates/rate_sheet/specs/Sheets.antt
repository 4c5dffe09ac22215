-- What the strips of several clocks make of a sheet.
use Rattle.std.specs.Prelude.{◌≡◌, ℕ, false, List, length}
use Rattle.history.specs.Calls.{Store}
use Rattle.history.specs.Past.{Entry, Past, Upheld}

-- The sheet t is what n calls, granted or refused, have made of the sheet s, and no pixel of it is wrong.
pub record After (n : ℕ) (s t : Store ℕ) : Type 0 where
  pub entries : List (Entry ℕ)
  pub counted : length entries ≡ n
  pub past : Past 1 false s entries t
  pub upheld : Upheld 1 false s entries t
