-- A token taken: the row from a point on is that of the case which fits it. Assumes nothing.
-- Why: a row is read from the tokens left by `row_from`, whose first step is the act of the token taken (`row_next`), so an arm's answer is the row's once the
-- act of its code is known (`took_at`).
use mathlib.Core.Path.{◌≡◌, refl, sym, ap, subst, ◌∙◌}
use mathlib.Core.Bool.{Bool, true, false}
use mathlib.Core.List.{List, [], ◌∷◌, ◌++◌}
use Prim.Native.Nat.{ℕ, suc, ◌+◌}
use native.Mathlib.Omega.{arith}
use lib.Dec.{eqb}
use borrow.Author.Tests.{eq-eqb, ne_eqb}
use Rattle.std.specs.Prelude.{Result, Ok, Err, IsErrAnd}
use Rattle.tables.specs.Choose.{pick}
use Rattle.lex.specs.Token.{Token, token, lexeme, Lexeme, num, NUM}
use Rattle.standard.specs.Rows.{NonTerm, Expression, Point, Act, read_on, put_back, refuse, Case, other, look, cases, follow, act_at, read_from}
use Rattle.row.specs.declared.Row.{Row}
use Rattle.row.specs.declared.Found.{Found}
use Rattle.row.specs.declared.Refused.{Refused}
use Rattle.row.specs.declared.table.Taken.{Taken}
use Rattle.row.specs.Tokens.{token_at, lexemes_left}
use Rattle.row.specs.Next.{IsTaken}
use Rattle.row.specs.Request.{Request, refused, entries, Reading, reading, reading_asked, request_of, asked_at, refused_at, reading_of}
use Rattle.row.specs.Told.{row_from}
use Rattle.row.proofs.LookLaws.{lexeme_by, lexeme_by_lem, codes, Plain, Rest, none_of, look_missed}

-- a row that a test decides
pub row_pick : (script table : List ℕ) (b : Bool) (asks : Row) (number left : ℕ) → reading_of script table (pick b (asked_at asks left) (refused_at number left)) ≡ reading (pick b (request_of table asks) (refused number)) (lexemes_left script table left)
row_pick script table true asks number left = refl
row_pick script table false asks number left = refl

-- a number that a case is for, and another one
pub number_is : (n k : ℕ) (a b : Act) → n ≡ k → pick (eqb n k) a b ≡ a
number_is n k a b e = ap (λ (t : Bool). pick t a b) (eq-eqb n k e)

pub number_not : (n k : ℕ) (a b : Act) → (n ≡ k → ⊥) → pick (eqb n k) a b ≡ b
number_not n k a b e = ap (λ (t : Bool). pick t a b) (ne_eqb n k e)

module _ (segwit : Bool) (point : Point) (script table : List ℕ) where
  -- what an act makes of a token, with so many left after it
  abbrev pub led : Act → Lexeme → ℕ → Reading
  led act x rest = reading_asked segwit (follow act (λ further. read_from segwit further (lexemes_left script table rest)) x (lexemes_left script table rest))

  row_next : (rest : ℕ) → led (act_at segwit point (lexeme script (token_at table rest))) (lexeme script (token_at table rest)) rest ≡ row_from segwit point script table (suc rest)
  unfolding row_from
  row_next rest = refl

  -- the token that stands behind `rest` others
  module _ (k : Token) (rest left : ℕ) (is : k ≡ token_at table rest) (l : suc rest ≡ left) where
    pub took_at : {x : Reading} → x ≡ led (act_at segwit point (lexeme_by script k.code k.number k.place)) (lexeme_by script k.code k.number k.place) rest → x ≡ row_from segwit point script table left
    took_at h =
        h
        ∙ ap (λ (y : Lexeme). led (act_at segwit point y) y rest) (sym (lexeme_by_lem script k.code k.number k.place) ∙ ap (lexeme script) is)
        ∙ row_next rest
        ∙ ap (λ (m : ℕ). row_from segwit point script table m) l

    pub arm_at : (code : ℕ) → k.code ≡ code → {x : Reading} → x ≡ led (act_at segwit point (lexeme_by script code k.number k.place)) (lexeme_by script code k.number k.place) rest → x ≡ row_from segwit point script table left
    arm_at code q h = took_at (h ∙ ap (λ (i : ℕ). led (act_at segwit point (lexeme_by script i k.number k.place)) (lexeme_by script i k.number k.place) rest) (sym q))

    pub onward_at : (code : ℕ) (further : Point) → k.code ≡ code → act_at segwit point (lexeme_by script code k.number k.place) ≡ read_on further → {x : Reading} → x ≡ row_from segwit further script table rest → x ≡ row_from segwit point script table left
    unfolding row_from
    onward_at code further q d h = arm_at code q (h ∙ ap (λ (a : Act). led a (lexeme_by script code k.number k.place) rest) (sym d))

    pub unfit_at : Plain (cases segwit point) → cases segwit point ++ [] ≡ cases segwit point → Rest k.code (Unit {0}) (codes (cases segwit point)) → {r : Result Found Refused} → r ≡ refused_at 10 rest → reading_of script table r ≡ row_from segwit point script table left
    unfit_at q w x s =
        took_at
        (ap (reading_of script table) s
        ∙ ap (λ (a : Act). led a (lexeme_by script k.code k.number k.place) rest)
        (sym (look_missed script k.code k.number k.place (cases segwit point) [] q (none_of k.code (codes (cases segwit point)) x)) ∙ ap (look (lexeme_by script k.code k.number k.place)) w))

  module _ (left : ℕ) where
    -- none is left
    pub dry : {none : Refused} (r : Result Found Refused) → (left ≡ 0) × (none ≡ record { number = 9; left = 0 }) → IsErrAnd r (λ x. x ≡ none) → reading_of script table r ≡ row_from segwit point script table left
    unfolding row_from
    dry (Ok x) e g = absurd g
    dry (Err x) e g = ap (λ (y : Refused). reading_of script table (Err y)) (g ∙ e.1) ∙ ap (λ (m : ℕ). row_from segwit point script table m) (sym e.0)

    module _ {k : Taken} (t : IsTaken table left k) where
      token_is : token k.code k.number k.place ≡ token_at table k.rest.left
      token_is = let a = t.code in let b = t.number in let d = t.place in cc

      pub took : {x : Reading} → x ≡ led (act_at segwit point (lexeme_by script k.code k.number k.place)) (lexeme_by script k.code k.number k.place) k.rest.left → x ≡ row_from segwit point script table left
      took h = took_at (token k.code k.number k.place) k.rest.left left token_is t.left_is h

      -- a code that has a case
      pub arm : (code : ℕ) → k.code ≡ code → {x : Reading} → x ≡ led (act_at segwit point (lexeme_by script code k.number k.place)) (lexeme_by script code k.number k.place) k.rest.left → x ≡ row_from segwit point script table left
      arm code q h = arm_at (token k.code k.number k.place) k.rest.left left token_is t.left_is code q h

      -- a code that leads on to another point
      pub onward : (code : ℕ) (further : Point) (r : Result Found Refused) → k.code ≡ code → act_at segwit point (lexeme_by script code k.number k.place) ≡ read_on further → reading_of script k.rest.table.now r ≡ row_from segwit further script k.rest.table.now k.rest.left → reading_of script table r ≡ row_from segwit point script table left
      onward code further r q d h =
          onward_at (token k.code k.number k.place) k.rest.left left token_is t.left_is code further q d
          (subst (λ (l : List ℕ). reading_of script l r ≡ row_from segwit further script l k.rest.left) t.same h)

      -- a number that isn't the one wanted
      pub other_number : (n : ℕ) (act : Act) → k.code ≡ NUM → act_at segwit point (num k.number) ≡ pick (eqb k.number n) act (refuse 10) → (k.number ≡ n → ⊥) → {r : Result Found Refused} → r ≡ refused_at 10 k.rest.left → reading_of script table r ≡ row_from segwit point script table left
      other_number n act q d h s = arm NUM q (ap (reading_of script table) s ∙ ap (λ (a : Act). led a (num k.number) k.rest.left) (sym (d ∙ number_not k.number n act (refuse 10) h)))

      -- a code that no case has
      pub unfit : Plain (cases segwit point) → cases segwit point ++ [] ≡ cases segwit point → Rest k.code (Unit {0}) (codes (cases segwit point)) → {r : Result Found Refused} → r ≡ refused_at 10 k.rest.left → reading_of script table r ≡ row_from segwit point script table left
      unfit q w x s = unfit_at (token k.code k.number k.place) k.rest.left left token_is t.left_is q w x s

      -- a code that no case has but the last, which puts the token back
      pub put_back_lem : (cs : List Case) (es : List NonTerm) (asks : Row) → Plain cs → cs ++ (other (put_back es) ∷ []) ≡ cases segwit point → Rest k.code (Unit {0}) (codes cs) → request_of table asks ≡ entries (Expression ∷ es) → {back : ℕ} → back ≡ k.rest.left + 1 → {r : Result Found Refused} → r ≡ asked_at asks back → reading_of script table r ≡ row_from segwit point script table left
      put_back_lem cs es asks q w x d {back} b h =
          let s : back ≡ suc k.rest.left = omega arith in
          ap (reading_of script table) h
          ∙ ap (λ (i : ℕ). reading (request_of table asks) (lexemes_left script table i)) s
          ∙ ap (λ (r : Request). reading r (lexemes_left script table (suc k.rest.left))) d
          ∙ took
          (ap (λ (y : Lexeme). reading (entries (Expression ∷ es)) (y ∷ lexemes_left script table k.rest.left)) (ap (lexeme script) (sym token_is) ∙ lexeme_by_lem script k.code k.number k.place)
          ∙ ap (λ (a : Act). led a (lexeme_by script k.code k.number k.place) k.rest.left)
          (sym (look_missed script k.code k.number k.place cs (other (put_back es) ∷ []) q (none_of k.code (codes cs) x)) ∙ ap (look (lexeme_by script k.code k.number k.place)) w))
