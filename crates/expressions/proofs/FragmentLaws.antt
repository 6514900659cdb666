-- The arms of the row Expression: a number alone, a key alone, a token that only enters entries, and any other. Assumes nothing.
use mathlib.Core.Path.{◌≡◌, refl, sym, ap, ◌∙◌}
use mathlib.Core.Bool.{Bool, true, false}
use mathlib.Core.List.{List, [], ◌∷◌}
use Prim.Native.Nat.{ℕ, ◌+◌}
use lib.Dec.{eqb}
use borrow.Author.Tests.{ne_eqb, eqb-true, eqb-false}
use Rattle.std.specs.Prelude.{Result}
use Rattle.tables.specs.Choose.{pick}
use Rattle.lex.specs.Token.{data_at, data_length, num}
use Rattle.standard.specs.Tree.{key, True, False}
use Rattle.standard.specs.Allowed.{key_form}
use Rattle.standard.specs.Rows.{inExpression, Act, make, refuse, cases}
use Rattle.row.specs.declared.Row.TheVariants as row
use Rattle.row.specs.declared.Found.{Found}
use Rattle.row.specs.declared.Refused.{Refused}
use Rattle.row.specs.declared.table.Taken.{Taken}
use Rattle.row.specs.Tokens.{lexemes_left}
use Rattle.row.specs.Next.{IsTaken}
use Rattle.row.specs.Request.{refused, leaf_node, reading, asked_at, refused_at, reading_of}
use Rattle.row.specs.Told.{row_from}
use Rattle.row.proofs.LookLaws.{lexeme_by, length_by, Rest, None, none_of, look_missed}
use Rattle.row.proofs.TakenLaws.{led, took, arm}
use Rattle.locks.specs.Leaves.{key_at, key_row}
use Rattle.locks.proofs.LeafLaws.{key_is}
use Rattle.expressions.specs.Fragments.{number_row, fragment_row}

no_fragment : (code left : ℕ) → Rest code (Unit {0}) (6 ∷ 20 ∷ 19 ∷ 1 ∷ 2 ∷ []) → refused_at 10 left ≡ fragment_row code left
no_fragment code left x =
    let m : None code (6 ∷ 20 ∷ 19 ∷ 1 ∷ 2 ∷ []) = none_of code (6 ∷ 20 ∷ 19 ∷ 1 ∷ 2 ∷ []) x in
    sym (simp (ne_eqb code 6 m.0, ne_eqb code 20 m.1.0, ne_eqb code 19 m.1.1.0, ne_eqb code 1 m.1.1.1.0, ne_eqb code 2 m.1.1.1.1.0))

-- a number alone
pub number_is : (segwit : Bool) (script table : List ℕ) (rest n : ℕ) {r : Result Found Refused} → r ≡ number_row n rest → reading_of script table r ≡ led segwit inExpression script table (pick (eqb n 0) (make False []) (pick (eqb n 1) (make True []) (refuse 10))) (num n) rest
number_is segwit script table rest n e = ap (reading_of script table) e ∙ by (eqb n 0) (eqb n 1)
  where
    by : (a b : Bool) → reading_of script table (pick a (asked_at (row.Leaf 2 0 0 false) rest) (pick b (asked_at (row.Leaf 1 0 0 false) rest) (refused_at 10 rest))) ≡ led segwit inExpression script table (pick a (make False []) (pick b (make True []) (refuse 10))) (num n) rest
    by true b = refl
    by false true = refl
    by false false = refl

-- a key alone, whose code is known
pub key_alone : (segwit : Bool) (script table : List ℕ) (code place left k : ℕ) {r : Result Found Refused} → code ≡ k → r ≡ key_row (key_form segwit (key_at script code (place + 1))) (place + 1) left → reading_of script table r ≡ reading (pick (key_form segwit (key k (data_at script (place + 1) (length_by k)))) (leaf_node 3 0 (place + 1) []) (refused 11)) (lexemes_left script table left)
unfolding data_length
key_alone segwit script table code place left k c e =
    key_is segwit script table code (place + 1) left e
    ∙ ap (λ (i : ℕ). reading (pick (key_form segwit (key_at script i (place + 1))) (leaf_node 3 0 (place + 1) []) (refused 11)) (lexemes_left script table left)) c

-- a token of none of the other arms: it enters entries, or fits no case
pub fragment_is : (segwit : Bool) (script table : List ℕ) (left : ℕ) {k : Taken} → IsTaken table left k → {r : Result Found Refused} → Rest k.code (Unit {0}) (31 ∷ 32 ∷ 30 ∷ 23 ∷ 9 ∷ 10 ∷ 4 ∷ 28 ∷ 8 ∷ 5 ∷ []) → r ≡ fragment_row k.code k.rest.left → reading_of script table r ≡ row_from segwit inExpression script table left
fragment_is segwit script table left {k} t {r} x h = by (eqb k.code 6) (eqb k.code 20) (eqb k.code 19) (eqb k.code 1) (eqb k.code 2) refl refl refl refl refl
  where
    m : None k.code (31 ∷ 32 ∷ 30 ∷ 23 ∷ 9 ∷ 10 ∷ 4 ∷ 28 ∷ 8 ∷ 5 ∷ [])
    m = none_of k.code (31 ∷ 32 ∷ 30 ∷ 23 ∷ 9 ∷ 10 ∷ 4 ∷ 28 ∷ 8 ∷ 5 ∷ []) x

    to : (code : ℕ) → k.code ≡ code → reading_of script table r ≡ reading_of script table (fragment_row code k.rest.left)
    to code q = ap (reading_of script table) (h ∙ ap (λ (i : ℕ). fragment_row i k.rest.left) q)

    unfit : (k.code ≡ 6 → ⊥) → (k.code ≡ 20 → ⊥) → (k.code ≡ 19 → ⊥) → (k.code ≡ 1 → ⊥) → (k.code ≡ 2 → ⊥) → reading_of script table r ≡ row_from segwit inExpression script table left
    unfit u v w y z =
        ap (reading_of script table) (h ∙ sym (no_fragment k.code k.rest.left (((((tt, u), v), w), y), z)))
        ∙ took segwit inExpression script table left t
        (ap (λ (a : Act). led segwit inExpression script table a (lexeme_by script k.code k.number k.place) k.rest.left)
        (sym
        (look_missed script k.code k.number k.place (cases segwit inExpression) [] tt
        (m.0, (m.1.0, (m.1.1.0, (u, (m.1.1.1.0, (v, (m.1.1.1.1.0, (m.1.1.1.1.1.0, (m.1.1.1.1.1.1.0, (m.1.1.1.1.1.1.1.0, (m.1.1.1.1.1.1.1.0, (w, (y, (z, m.1.1.1.1.1.1.1.1)))))))))))))))))

    by : (b1 b2 b3 b4 b5 : Bool) → eqb k.code 6 ≡ b1 → eqb k.code 20 ≡ b2 → eqb k.code 19 ≡ b3 → eqb k.code 1 ≡ b4 → eqb k.code 2 ≡ b5 → reading_of script table r ≡ row_from segwit inExpression script table left
    by true b2 b3 b4 b5 u v w y z = arm segwit inExpression script table left t 6 (eqb-true k.code 6 u) (to 6 (eqb-true k.code 6 u))
    by false true b3 b4 b5 u v w y z = arm segwit inExpression script table left t 20 (eqb-true k.code 20 v) (to 20 (eqb-true k.code 20 v))
    by false false true b4 b5 u v w y z = arm segwit inExpression script table left t 19 (eqb-true k.code 19 w) (to 19 (eqb-true k.code 19 w))
    by false false false true b5 u v w y z = arm segwit inExpression script table left t 1 (eqb-true k.code 1 y) (to 1 (eqb-true k.code 1 y))
    by false false false false true u v w y z = arm segwit inExpression script table left t 2 (eqb-true k.code 2 z) (to 2 (eqb-true k.code 2 z))
    by false false false false false u v w y z = unfit (eqb-false k.code 6 u) (eqb-false k.code 20 v) (eqb-false k.code 19 w) (eqb-false k.code 1 y) (eqb-false k.code 2 z)
