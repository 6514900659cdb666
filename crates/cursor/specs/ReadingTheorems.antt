-- What the contracts of the cursor's functions settle. Assumes nothing.
-- Why: each contract says by equations what is answered and what the cursor is afterwards, from the table and the cursor before; so two outcomes that meet it are equal.
use Rattle.std.specs.Prelude.{◌≡◌, List, ℕ, ◌+◌, ◌-◌, Option}
use Rattle.std.proofs.Common.{sym, ap, ◌∙◌, arith}
use Rattle.cursor.specs.declared.Cursor.{Cursor}
use Rattle.cursor.specs.declared.Token.{Token}
use Rattle.cursor.specs.declared.Took.{Took}
use Rattle.cursor.specs.Reading.{next_of, took_of}

-- the cursor at this number
abbrev cursor_at : ℕ → Cursor
cursor_at left = record { left = left }

-- THEOREM: any two outcomes of `next` are identical, the token and the cursor afterwards
pub next_unique : (table : List ℕ) (before after after' : Cursor) (r r' : Option Token) → (r ≡ next_of table before.left) × (after.left ≡ before.left - 1)
    → (r' ≡ next_of table before.left) × (after'.left ≡ before.left - 1) → (r ≡ r') × (after ≡ after')
next_unique table before after after' r r' p q = (p.0 ∙ sym q.0, ap cursor_at (p.1 ∙ sym q.1))

-- THEOREM: so are any two of `peek`, which leaves the cursor where it is
pub peek_unique : (table : List ℕ) (before : Cursor) (r r' : Option Token) → r ≡ next_of table before.left → r' ≡ next_of table before.left → r ≡ r'
peek_unique table before r r' p q = p ∙ sym q

-- THEOREM: so are any two of `un_next`
pub un_next_unique : (before after after' : Cursor) → after.left ≡ before.left + 1 → after'.left ≡ before.left + 1 → after ≡ after'
un_next_unique before after after' p q = ap cursor_at (p ∙ sym q)

-- THEOREM: so are any two of `take`, of `look` and of `put_back`
pub take_unique : (table : List ℕ) (left : ℕ) (r r' : Took) → r ≡ took_of (next_of table left) (left - 1) → r' ≡ took_of (next_of table left) (left - 1) → r ≡ r'
take_unique table left r r' p q = p ∙ sym q

pub look_unique : (table : List ℕ) (left : ℕ) (r r' : Option Token) → r ≡ next_of table left → r' ≡ next_of table left → r ≡ r'
look_unique table left r r' p q = p ∙ sym q

pub put_back_unique : (left r r' : ℕ) → r ≡ left + 1 → r' ≡ left + 1 → r ≡ r'
put_back_unique left r r' p q = p ∙ sym q

-- THEOREM: a token put back right after it was taken leaves the cursor where it was
pub put_back_undoes : (before between after : Cursor) → (before.left ≡ 0 → ⊥) → between.left ≡ before.left - 1 → after.left ≡ between.left + 1 → after ≡ before
put_back_undoes before between after some p q = ap cursor_at (q ∙ undone before.left between.left some p)
  where
    undone : (left rest : ℕ) → (left ≡ 0 → ⊥) → rest ≡ left - 1 → rest + 1 ≡ left
    undone left rest some p = omega (arith, some, p)
