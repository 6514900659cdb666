-- `rows::w_expression` meets its contract: token by token, by TakenLaws of `row`.
use Rattle.row.proofs.TakenLaws.{dry, arm, put_back_lem}
use Rattle.row.specs.declared.NonTerm.TheVariants as non-term
use Rattle.row.specs.declared.Row.TheVariants as row
use Rattle.rows.proofs.w_expression.Goals as goal
use Rattle.standard.specs.Rows as point
use mathlib.Core.List.{[], ◌∷◌}
use mathlib.Core.Path.{refl}
use mathlib.Core.Path.{ap}
use Rattle.row.specs.Request.{reading_of}

pub returns-in_err-token : goal.returns-in_err-token
returns-in_err-token c = λ segwit script. dry segwit _ script c.args.tokens.table.now c.args.tokens.left c.from_residual.result c.in_err-token.ensures c.from_residual.ensures.1

pub returns-in-11 : goal.returns-in-11
returns-in-11 c = λ segwit script. arm segwit _ script c.args.tokens.table.now c.args.tokens.left c.in_ok-token.ensures 11 c.in-11.is (ap (reading_of script c.args.tokens.table.now) c.ask.ensures)

pub returns-in_default : goal.returns-in_default
returns-in_default c = λ segwit script. put_back_lem segwit _ script c.args.tokens.table.now c.args.tokens.left c.in_ok-token.ensures (point.opcode 11 (point.enter (point.Expression ∷ point.MaybeAndV ∷ point.Alt ∷ [])) ∷ []) (point.MaybeAndV ∷ point.Swap ∷ []) (row.Enter3 non-term.Swap non-term.MaybeAndV non-term.Expression) tt refl c.in_default.in_default-own.rest refl c.un_next.ensures c.ask-in_default.ensures
