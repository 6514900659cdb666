-- The row of an entry: from a point on, or without a token; thresh's k and n; and thresh's children. Assumes nothing.
use mathlib.Core.Path.{◌≡◌, refl, sym, ap, ◌∙◌}
use mathlib.Core.Bool.{Bool}
use mathlib.Core.List.{List, [], ◌∷◌}
use Prim.Native.Nat.{ℕ, suc, ◌+◌}
use native.Mathlib.Omega.{arith}
use Rattle.std.specs.Prelude.{Result, IsErrAnd}
use Rattle.lex.specs.Token.{Lexeme, ADD}
use Rattle.standard.specs.Allowed.{within}
use Rattle.standard.specs.Rows.{Point, in_thresh_w, opcode, enter, WExpression, Expression, ThreshW, ThreshE, read_from, row_of}
use Rattle.row.specs.declared.NonTerm.{NonTerm}
use Rattle.row.specs.declared.NonTerm.TheVariants as non-term
use Rattle.row.specs.declared.Row.TheVariants as row
use Rattle.row.specs.declared.Found.{Found}
use Rattle.row.specs.declared.Refused.{Refused}
use Rattle.row.specs.declared.table.Taken.{Taken}
use Rattle.row.specs.Tokens.{lexemes_left}
use Rattle.row.specs.Next.{IsTaken}
use Rattle.row.specs.Request.{entries, Reading, reading, reading_asked, entry_of, asked_at, reading_of}
use Rattle.row.specs.Told.{row_from, entry_row}
use Rattle.row.proofs.LookLaws.{Rest}
use Rattle.row.proofs.TakenLaws.{row_pick, dry, arm, put_back_lem}
use Rattle.rows.specs.Thresh.{thresh_row}

-- the contract of `row_of`, for an entry that is known
module _ (segwit : Bool) (script table : List ℕ) (left : ℕ) where
  abbrev asks : NonTerm → Reading
  asks x = reading_asked segwit (row_of segwit (entry_of x) (lexemes_left script table left))

  module _ (entry : NonTerm) where
    -- its row starts at a point
    pub by_point : (known : NonTerm) (point : Point) {x : Reading} → entry ≡ known → ((tokens : List Lexeme) → read_from segwit point tokens ≡ row_of segwit (entry_of known) tokens) → x ≡ row_from segwit point script table left → x ≡ asks entry
    unfolding row_from
    by_point known point q f h = h ∙ ap (reading_asked segwit) (f (lexemes_left script table left)) ∙ ap asks (sym q)

    -- its row is told as an entry's
    pub by_entry : (known : NonTerm) {x : Reading} → entry ≡ known → x ≡ entry_row segwit known script table left → x ≡ asks entry
    unfolding entry_row
    by_entry known q h = h ∙ ap asks (sym q)

    -- ThreshE
    pub by_thresh : (k n : ℕ) {r : Result Found Refused} → entry ≡ non-term.ThreshE k n → r ≡ thresh_row k n left → reading_of script table r ≡ asks entry
    unfolding thresh_row
    by_thresh k n q h =
        ap (reading_of script table) h
        ∙ row_pick script table (within 1 k n) (row.Thresh k n) 13 left
        ∙ ap asks (sym q)

-- thresh's children
module _ (segwit : Bool) (script table : List ℕ) (left k n : ℕ) where
  at_entry : {x : Reading} → x ≡ row_from segwit (in_thresh_w k n) script table left → x ≡ entry_row segwit (non-term.ThreshW k n) script table left
  unfolding row_from entry_row
  at_entry h = h

  one_more : n + 1 ≡ suc n
  one_more = omega arith

  pub no_child : {none : Refused} (r : Result Found Refused) → (left ≡ 0) × (none ≡ record { number = 9; left = 0 }) → IsErrAnd r (λ x. x ≡ none) → reading_of script table r ≡ entry_row segwit (non-term.ThreshW k n) script table left
  no_child r f g = at_entry (dry segwit (in_thresh_w k n) script table left r f g)

  module _ {j : Taken} (t : IsTaken table left j) where
    pub child_more : {r : Result Found Refused} → j.code ≡ ADD → r ≡ asked_at (row.Enter2 (non-term.ThreshW k (n + 1)) non-term.WExpression) j.rest.left → reading_of script table r ≡ entry_row segwit (non-term.ThreshW k n) script table left
    child_more q s = at_entry (arm segwit (in_thresh_w k n) script table left t ADD q (ap (reading_of script table) s ∙ ap (λ (i : ℕ). reading (entries (WExpression ∷ ThreshW k i ∷ [])) (lexemes_left script table j.rest.left)) one_more))

    pub first_child : Rest j.code (Unit {0}) (3 ∷ []) → {back : ℕ} → back ≡ j.rest.left + 1 → {r : Result Found Refused} → r ≡ asked_at (row.Enter2 (non-term.ThreshE k (n + 1)) non-term.Expression) back → reading_of script table r ≡ entry_row segwit (non-term.ThreshW k n) script table left
    first_child x b s =
        at_entry
        (put_back_lem segwit (in_thresh_w k n) script table left t (opcode ADD (enter (WExpression ∷ ThreshW k (suc n) ∷ [])) ∷ []) (ThreshE k (suc n) ∷ []) (row.Enter2 (non-term.ThreshE k (n + 1)) non-term.Expression) tt refl x (ap (λ (i : ℕ). entries (Expression ∷ ThreshE k i ∷ [])) one_more) b s)
