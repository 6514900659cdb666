-- A number that stands in no row of a table of cases: what a `match` says in its arm `_`. Assumes nothing.
use mathlib.Core.Path.{◌≡◌, refl}
use mathlib.Core.List.{List, [], ◌∷◌}
use Prim.Native.Nat.{ℕ}
use borrow.Author.Tests.{ne_eqb}
use Rattle.tables.specs.Choose.{look}
use Rattle.standard.specs.Table.{terminals, noTerminal, terminal_of}

-- what the arm `_` knows: the facts of the rows before, and that k is not the next row's number
abbrev pub Rest : {A : Type 0} → ℕ → Type 0 → List (ℕ × A) → Type 0
Rest k known [] = known
Rest k known (row ∷ rows) = Rest k (known × (k ≡ row.0 → ⊥)) rows

pub missed : {A : Type 0} (k : ℕ) (other : A) (known : Type 0) (rows : List (ℕ × A)) → Rest k known rows → known × (look k rows other ≡ other)
missed k other known [] r = (r, refl)
missed k other known (row ∷ rows) r =
    let m = missed k other (known × (k ≡ row.0 → ⊥)) rows r in
    (m.0.0, rw (ne_eqb k row.0 m.0.1) m.1)

-- a kind that isn't listed
pub unknown_kind : (kind : ℕ) → Rest kind (Unit {0}) terminals → terminal_of kind ≡ noTerminal
unfolding terminal_of
unknown_kind kind r = (missed kind noTerminal (Unit {0}) terminals r).1
