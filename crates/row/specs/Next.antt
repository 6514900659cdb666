-- For the proof: the token that is taken next, read off the token table.
use Rattle.std.specs.Prelude.{◌≡◌, List, ℕ, suc, ◌+◌, ◌*◌, get_or, Result, Ok, Err}
use Rattle.row.specs.declared.table.Taken.{Taken}
use Rattle.row.specs.declared.Refused.{Refused}

-- the last of the tokens left, and those before it, in the same table
pub record IsTaken (table : List ℕ) (left : ℕ) (t : Taken) : Type 0 where
  pub left_is : suc t.rest.left ≡ left
  pub same : t.rest.table.now ≡ table
  pub code : t.code ≡ get_or table (3 * t.rest.left) 0
  pub number : t.number ≡ get_or table (3 * t.rest.left + 1) 0
  pub place : t.place ≡ get_or table (3 * t.rest.left + 2) 0

-- 9 if none is left
abbrev pub IsNext : List ℕ → ℕ → Result Taken Refused → Type 0
IsNext table left (Ok t) = IsTaken table left t
IsNext table left (Err e) = (left ≡ 0) × (e ≡ record { number = 9; left = 0 })
