-- `branches::end_if_else` meets its contract: token by token, by TakenLaws of `row`.
use Rattle.branches.proofs.end_if_else.Goals as goal
use Rattle.row.proofs.TakenLaws.{dry, arm, unfit}
use mathlib.Core.Path.{refl}
use mathlib.Core.Path.{ap}
use Rattle.row.specs.Request.{reading_of}

pub returns-in_err-token : goal.returns-in_err-token
returns-in_err-token c = λ segwit script. dry segwit _ script c.args.tokens.table.now c.args.tokens.left c.from_residual.result c.in_err-token.ensures c.from_residual.ensures.1

pub returns-in-15 : goal.returns-in-15
returns-in-15 c = λ segwit script. arm segwit _ script c.args.tokens.table.now c.args.tokens.left c.in_ok-token.ensures 15 c.in-15.is (ap (reading_of script c.args.tokens.table.now) c.ask.ensures)

pub returns-in-17 : goal.returns-in-17
returns-in-17 c = λ segwit script. arm segwit _ script c.args.tokens.table.now c.args.tokens.left c.in_ok-token.ensures 17 c.in-17.is (ap (reading_of script c.args.tokens.table.now) c.ask-in-17.ensures)

pub returns-in_default : goal.returns-in_default
returns-in_default c = λ segwit script. unfit segwit _ script c.args.tokens.table.now c.args.tokens.left c.in_ok-token.ensures tt refl c.in_default.in_default-own.rest c.refuse.ensures
