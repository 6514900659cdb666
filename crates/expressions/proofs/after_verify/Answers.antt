-- `expressions::after_verify` meets its contract: token by token, by TakenLaws of `row`.
use Rattle.expressions.proofs.after_verify.Goals as goal
use Rattle.row.proofs.TakenLaws.{dry, onward, put_back_lem}
use Rattle.row.specs.declared.NonTerm.TheVariants as non-term
use Rattle.row.specs.declared.Row.TheVariants as row
use Rattle.standard.specs.Rows as point
use mathlib.Core.List.{[], ◌∷◌}
use mathlib.Core.Path.{refl}

pub returns-in_err-token : goal.returns-in_err-token
returns-in_err-token c = λ segwit script. dry segwit _ script c.args.tokens.table.now c.args.tokens.left c.from_residual.result c.in_err-token.ensures c.from_residual.ensures.1

pub returns-in-4 : goal.returns-in-4
returns-in-4 c = λ segwit script. onward segwit _ script c.args.tokens.table.now c.args.tokens.left c.in_ok-token.ensures 4 _ c.after_verify_equal.result c.in-4.is refl (c.after_verify_equal.ensures segwit script)

pub returns-in_default : goal.returns-in_default
returns-in_default c = λ segwit script. put_back_lem segwit _ script c.args.tokens.table.now c.args.tokens.left c.in_ok-token.ensures (point.opcode 4 (point.read_on point.afterVerifyEqual) ∷ []) (point.Verify ∷ []) (row.Enter2 non-term.Verify non-term.Expression) tt refl c.in_default.in_default-own.rest refl c.un_next.ensures c.ask.ensures
