-- Choosing between two values by a Bool: how every definition of this repository writes 01's "when". And looking a number up in a table of cases.
use Rattle.std.specs.Prelude.{Bool, true, false, List, [], ◌∷◌, ℕ, eqb}

abbrev pub pick : {A : Type 0} → Bool → A → A → A
pick true a b = a
pick false a b = b

-- what stands beside the number k, if it is listed
abbrev pub look : {A : Type 0} → ℕ → List (ℕ × A) → A → A
look k [] other = other
look k (row ∷ rows) other = pick (eqb k row.0) row.1 (look k rows other)
