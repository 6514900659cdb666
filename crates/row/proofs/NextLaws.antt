-- Any two outcomes of `Tokens::next` are one: the last of the tokens left and those before it, or 9 where none is left. Assumes nothing.
-- Why: its contract settles each field of what is taken (IsTaken), and which of the two cases it is.
use mathlib.Core.Path.{◌≡◌, sym, ap, ◌∙◌}
use mathlib.Core.List.{List}
use Prim.Native.Nat.{ℕ, zero, suc, ◌+◌, ◌*◌}
use lib.ListN.{get_or}
use Rattle.std.specs.Prelude.{Result, Ok, Err}
use Rattle.row.specs.declared.table.Taken.{Taken}
use Rattle.row.specs.declared.Refused.{Refused}
use Rattle.row.specs.Next.{IsTaken, IsNext}

-- what a token taken holds: its cells, and how many tokens are left in which table
pub record Holds : Type 0 where
  pub code : ℕ
  pub number : ℕ
  pub place : ℕ
  pub left : ℕ
  pub table : List ℕ

abbrev pub held : Result Taken Refused → Result Holds Refused
held (Ok t) = Ok (record { code = t.code; number = t.number; place = t.place; left = t.rest.left; table = t.rest.table.now })
held (Err e) = Err e

abbrev pub taken_of : List ℕ → ℕ → Result Holds Refused
taken_of table zero = Err (record { number = 9; left = 0 })
taken_of table (suc left) = Ok (record { code = get_or table (3 * left) 0; number = get_or table (3 * left + 1) 0; place = get_or table (3 * left + 2) 0; left = left; table = table })

-- THEOREM: what `Tokens::next` answers is settled by the table and how many tokens are left
pub next_is : (table : List ℕ) (left : ℕ) (r : Result Taken Refused) → IsNext table left r → held r ≡ taken_of table left
next_is table left (Ok t) n =
    ap (λ (c : ℕ). Ok (record { code = c; number = t.number; place = t.place; left = t.rest.left; table = t.rest.table.now })) n.code
    ∙ ap (λ (m : ℕ). Ok (record { code = get_or table (3 * t.rest.left) 0; number = m; place = t.place; left = t.rest.left; table = t.rest.table.now })) n.number
    ∙ ap (λ (p : ℕ). Ok (record { code = get_or table (3 * t.rest.left) 0; number = get_or table (3 * t.rest.left + 1) 0; place = p; left = t.rest.left; table = t.rest.table.now })) n.place
    ∙ ap (λ (l : List ℕ). Ok (record { code = get_or table (3 * t.rest.left) 0; number = get_or table (3 * t.rest.left + 1) 0; place = get_or table (3 * t.rest.left + 2) 0; left = t.rest.left; table = l })) n.same
    ∙ ap (taken_of table) n.left_is
next_is table left (Err e) n = ap (λ (x : Refused). Err x) n.1 ∙ ap (taken_of table) (sym n.0)

-- THEOREM: any two outcomes of it are one
pub next_unique : (table : List ℕ) (left : ℕ) (r r' : Result Taken Refused) → IsNext table left r → IsNext table left r' → held r ≡ held r'
next_unique table left r r' n n' = next_is table left r n ∙ sym (next_is table left r' n')
