-- `multis::after_num_equal` meets its contract: token by token, by TakenLaws of `row`.
use Rattle.lex.specs.Token.{num}
use Rattle.multis.proofs.TestLaws.{tested_on}
use Rattle.multis.proofs.after_num_equal.Goals as goal
use Rattle.row.proofs.TakenLaws.{dry, arm, unfit}
use Rattle.standard.specs.Allowed.{multi_a_threshold}
use Rattle.standard.specs.Rows as point
use mathlib.Core.List.{[]}
use mathlib.Core.Path.{refl}

pub returns-in_err-token : goal.returns-in_err-token
returns-in_err-token c = λ script. dry c.args.segwit _ script c.args.tokens.table.now c.args.tokens.left c.from_residual.result c.in_err-token.ensures c.from_residual.ensures.1

pub returns-in-28 : goal.returns-in-28
returns-in-28 c = λ script. arm c.args.segwit _ script c.args.tokens.table.now c.args.tokens.left c.in_ok-token.ensures 28 c.in-28.is (tested_on c.args.segwit point.afterNumEqual (point.multiAKeys c.in_ok-token.token.number []) script c.args.tokens.table.now c.in_ok-token.token.rest.table.now c.in_ok-token.token.rest.left (multi_a_threshold c.in_ok-token.token.number) (num c.in_ok-token.token.number) c.multi_a_count.result c.in_ok-token.ensures.same (c.multi_a_count.ensures script))

pub returns-in_default : goal.returns-in_default
returns-in_default c = λ script. unfit c.args.segwit _ script c.args.tokens.table.now c.args.tokens.left c.in_ok-token.ensures tt refl c.in_default.in_default-own.rest c.refuse.ensures
