-- `is_and_v`, and the two rows that ask it. Assumes nothing.
-- Why: the code of the next token alone decides, since a number or a push is none of the five opcodes.
use mathlib.Core.Path.{◌≡◌, refl, sym, ap, ◌∙◌}
use mathlib.Core.Bool.{Bool, true, false, not}
use mathlib.Core.List.{List, [], ◌∷◌}
use Prim.Native.Nat.{ℕ, zero, suc, ◌+◌, ◌≤◌}
use native.Mathlib.Omega.{arith}
use lib.Dec.{eqb, leb}
use borrow.Author.Tests.{ne_eqb, eqb-true, leb-true}
use Rattle.std.specs.Prelude.{Option, None, Some, Result}
use Rattle.tables.specs.Choose.{pick}
use Rattle.lex.specs.Token.{Data, data_at, Lexeme, op, num, push, NUM, HASH20, BYTES65}
use Rattle.standard.specs.Tree.{and_v}
use Rattle.standard.specs.Rows.{Expression, MaybeAndV, AndV, is_and_v, enters, reduces2, found}
use Rattle.row.specs.declared.NonTerm.TheVariants as non-term
use Rattle.row.specs.declared.Row.TheVariants as row
use Rattle.row.specs.declared.Found.{Found}
use Rattle.row.specs.declared.Refused.{Refused}
use Rattle.row.specs.Tokens.{token_at, lexemes_left, ahead_of}
use Rattle.row.specs.Request.{reading_asked, asked_at, reading_of}
use Rattle.row.specs.Told.{entry_row}
use Rattle.rows.specs.Ends.{ends_and_v}
use Rattle.row.proofs.LookLaws.{length_by, lexeme_by_lem}

-- a push's code is none of the five
push_goes_on : (c : ℕ) → 29 ≤ c → ends_and_v c ≡ false
push_goes_on c l =
    let a : c ≡ 15 → ⊥ = λ e. omega arith in
    let b : c ≡ 17 → ⊥ = λ e. omega arith in
    let d : c ≡ 18 → ⊥ = λ e. omega arith in
    let f : c ≡ 12 → ⊥ = λ e. omega arith in
    let g : c ≡ 22 → ⊥ = λ e. omega arith in
    simp (ne_eqb c 15 a, ne_eqb c 17 b, ne_eqb c 18 d, ne_eqb c 12 f, ne_eqb c 22 g)

by_kind : (b d e : Bool) (c n : ℕ) (h : Data) (left : List Lexeme) → eqb c NUM ≡ b → leb HASH20 c ≡ d → is_and_v (pick b (num n) (pick d (pick e (push c h) (op c)) (op c)) ∷ left) ≡ not (ends_and_v c)
by_kind true d e c n h left q p = ap (λ (i : ℕ). not (ends_and_v i)) (sym (eqb-true c NUM q))
by_kind false true true c n h left q p = ap not (sym (push_goes_on c (leb-true HASH20 c p)))
by_kind false true false c n h left q p = refl
by_kind false false e c n h left q p = refl

-- what looking ahead says of it
pub told_ahead : (script table : List ℕ) (left c : ℕ) {a : Option ℕ} {b : Bool} → a ≡ ahead_of table left → a ≡ Some c → b ≡ ends_and_v c → not b ≡ is_and_v (lexemes_left script table left)
told_ahead script table left c {b = b} e f g = by left (sym f ∙ e)
  where
    code_in : Option ℕ → ℕ
    code_in None = 0
    code_in (Some d) = d

    by : (m : ℕ) → Some c ≡ ahead_of table m → not b ≡ is_and_v (lexemes_left script table m)
    by zero h = cc
    by (suc m) h =
        ap not (g ∙ ap (λ (d : ℕ). ends_and_v d) (ap code_in h))
        ∙ sym (by_kind (eqb k NUM) (leb HASH20 k) (leb k BYTES65) k (token_at table m).number (data_at script ((token_at table m).place + 1) (length_by k)) (lexemes_left script table m) refl refl)
        ∙ sym (ap (λ (x : Lexeme). is_and_v (x ∷ lexemes_left script table m)) (lexeme_by_lem script k (token_at table m).number (token_at table m).place))
      where
        k : ℕ
        k = (token_at table m).code

-- no token is left
pub ahead_none : (script table : List ℕ) (left : ℕ) → None ≡ ahead_of table left → false ≡ is_and_v (lexemes_left script table left)
ahead_none script table zero e = refl
ahead_none script table (suc m) e = cc

-- MaybeAndV and AndV
module _ (segwit : Bool) (script table : List ℕ) (left : ℕ) {b : Bool} {r : Result Found Refused} (e : b ≡ is_and_v (lexemes_left script table left)) where
  pub maybe_yes : b ≡ true → r ≡ asked_at (row.Enter2 non-term.AndV non-term.Expression) left → reading_of script table r ≡ entry_row segwit non-term.MaybeAndV script table left
  unfolding entry_row
  maybe_yes h s = ap (reading_of script table) s ∙ ap (λ (t : Bool). reading_asked segwit (pick t (found (enters (Expression ∷ AndV ∷ [])) (lexemes_left script table left)) (found (enters []) (lexemes_left script table left)))) (sym h ∙ e)

  pub maybe_no : b ≡ false → r ≡ asked_at row.Enter0 left → reading_of script table r ≡ entry_row segwit non-term.MaybeAndV script table left
  unfolding entry_row
  maybe_no h s = ap (reading_of script table) s ∙ ap (λ (t : Bool). reading_asked segwit (pick t (found (enters (Expression ∷ AndV ∷ [])) (lexemes_left script table left)) (found (enters []) (lexemes_left script table left)))) (sym h ∙ e)

  pub and_yes : b ≡ true → r ≡ asked_at (row.Enter2 non-term.AndV non-term.MaybeAndV) left → reading_of script table r ≡ entry_row segwit non-term.AndV script table left
  unfolding entry_row
  and_yes h s = ap (reading_of script table) s ∙ ap (λ (t : Bool). reading_asked segwit (pick t (found (enters (MaybeAndV ∷ AndV ∷ [])) (lexemes_left script table left)) (found (reduces2 and_v) (lexemes_left script table left)))) (sym h ∙ e)

  pub and_no : b ≡ false → r ≡ asked_at (row.Reduce2 19) left → reading_of script table r ≡ entry_row segwit non-term.AndV script table left
  unfolding entry_row
  and_no h s = ap (reading_of script table) s ∙ ap (λ (t : Bool). reading_asked segwit (pick t (found (enters (MaybeAndV ∷ AndV ∷ [])) (lexemes_left script table left)) (found (reduces2 and_v) (lexemes_left script table left)))) (sym h ∙ e)
