-- `multis::after_check_multi_sig` meets its contract: token by token, by TakenLaws of `row`.
use Rattle.lex.specs.Token.{num}
use Rattle.multis.proofs.TestLaws.{tested_on}
use Rattle.multis.proofs.after_check_multi_sig.Goals as goal
use Rattle.row.proofs.TakenLaws.{dry, arm, unfit}
use Rattle.standard.specs.Allowed.{multi_count}
use Rattle.standard.specs.Rows as point
use mathlib.Core.List.{[]}
use mathlib.Core.Path.{refl}

pub returns-in_err-token : goal.returns-in_err-token
returns-in_err-token c = dry c.args.segwit _ c.args.script.now c.args.tokens.table.now c.args.tokens.left c.from_residual.result c.in_err-token.ensures c.from_residual.ensures.1

pub returns-in-28 : goal.returns-in-28
returns-in-28 c = arm c.args.segwit _ c.args.script.now c.args.tokens.table.now c.args.tokens.left c.in_ok-token.ensures 28 c.in-28.is (tested_on c.args.segwit point.afterCheckMultiSig (point.multi_keys c.in_ok-token.token.number []) c.args.script.now c.args.tokens.table.now c.in_ok-token.token.rest.table.now c.in_ok-token.token.rest.left (multi_count c.in_ok-token.token.number) (num c.in_ok-token.token.number) c.multi_count.result c.in_ok-token.ensures.same c.multi_count.ensures)

pub returns-in_default : goal.returns-in_default
returns-in_default c = unfit c.args.segwit _ c.args.script.now c.args.tokens.table.now c.args.tokens.left c.in_ok-token.ensures tt refl c.in_default.in_default-own.rest c.refuse.ensures
