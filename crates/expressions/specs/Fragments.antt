-- For the proof: the row of a number alone, 0 or 1, and of a token that only enters what its fragment is made of.
use Rattle.std.specs.Prelude.{false, ℕ, eqb, Result}
use Rattle.tables.specs.Choose.{pick}
use Rattle.lex.specs.Token.{CHECKSIG, ZERONOTEQUAL, ENDIF, BOOLAND, BOOLOR}
use Rattle.row.specs.declared.NonTerm.TheVariants as non-term
use Rattle.row.specs.declared.Row.TheVariants as row
use Rattle.row.specs.declared.Found.{Found}
use Rattle.row.specs.declared.Refused.{Refused}
use Rattle.row.specs.Request.{asked_at, refused_at}

abbrev pub number_row : ℕ → ℕ → Result Found Refused
number_row n left = pick (eqb n 0) (asked_at (row.Leaf 2 0 0 false) left) (pick (eqb n 1) (asked_at (row.Leaf 1 0 0 false) left) (refused_at 10 left))

abbrev pub fragment_row : ℕ → ℕ → Result Found Refused
fragment_row code left =
    pick (eqb code CHECKSIG) (asked_at (row.Enter2 non-term.Check non-term.Expression) left)
    (pick (eqb code ZERONOTEQUAL) (asked_at (row.Enter2 non-term.ZeroNotEqual non-term.Expression) left)
    (pick (eqb code ENDIF) (asked_at (row.Enter3 non-term.EndIf non-term.MaybeAndV non-term.Expression) left)
    (pick (eqb code BOOLAND) (asked_at (row.Enter3 non-term.AndB non-term.Expression non-term.WExpression) left)
    (pick (eqb code BOOLOR) (asked_at (row.Enter3 non-term.OrB non-term.Expression non-term.WExpression) left)
    (refused_at 10 left)))))
