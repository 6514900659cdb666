-- Tests of k and n, before the keys. Assumes nothing.
use mathlib.Core.Path.{◌≡◌, refl, subst, ◌∙◌}
use mathlib.Core.Bool.{Bool, true, false}
use mathlib.Core.List.{List}
use Prim.Native.Nat.{ℕ}
use Rattle.std.specs.Prelude.{Result}
use Rattle.tables.specs.Choose.{pick}
use Rattle.lex.specs.Token.{Lexeme}
use Rattle.standard.specs.Rows.{Point, read_on, refuse}
use Rattle.row.specs.declared.Found.{Found}
use Rattle.row.specs.declared.Refused.{Refused}
use Rattle.row.specs.Tokens.{lexemes_left}
use Rattle.row.specs.Request.{reading_of}
use Rattle.row.specs.Told.{row_from}
use Rattle.row.proofs.TakenLaws.{led}
use Rattle.multis.specs.Keys.{tested}

tested_led : (segwit : Bool) (point further : Point) (script table : List ℕ) (rest : ℕ) (test : Bool) (x : Lexeme) → tested test (row_from segwit further script table rest) (lexemes_left script table rest) ≡ led segwit point script table (pick test (read_on further) (refuse 13)) x rest
unfolding row_from
tested_led segwit point further script table rest true x = refl
tested_led segwit point further script table rest false x = refl

-- the act of a number that is tested, and then leads on, in the same table
pub tested_on : (segwit : Bool) (point further : Point) (script table its : List ℕ) (rest : ℕ) (test : Bool) (x : Lexeme) (r : Result Found Refused) → its ≡ table → reading_of script its r ≡ tested test (row_from segwit further script its rest) (lexemes_left script its rest) → reading_of script table r ≡ led segwit point script table (pick test (read_on further) (refuse 13)) x rest
tested_on segwit point further script table its rest test x r e h =
    subst (λ (y : List ℕ). reading_of script y r ≡ tested test (row_from segwit further script y rest) (lexemes_left script y rest)) e h ∙ tested_led segwit point further script table rest test x
