-- `locks::lock_equal` meets its contract: token by token, by TakenLaws of `row`.
use Rattle.locks.proofs.lock_equal.Goals as goal
use Rattle.row.proofs.TakenLaws.{dry, onward, unfit}
use mathlib.Core.Path.{refl}

pub returns-in_err-token : goal.returns-in_err-token
returns-in_err-token c = λ segwit script bytes. dry segwit _ script c.args.tokens.table.now c.args.tokens.left c.from_residual.result c.in_err-token.ensures c.from_residual.ensures.1

pub returns-in-4 : goal.returns-in-4
returns-in-4 c = λ segwit script bytes. onward segwit _ script c.args.tokens.table.now c.args.tokens.left c.in_ok-token.ensures 4 _ c.lock_32.result c.in-4.is refl (c.lock_32.ensures segwit script bytes)

pub returns-in_default : goal.returns-in_default
returns-in_default c = λ segwit script bytes. unfit segwit _ script c.args.tokens.table.now c.args.tokens.left c.in_ok-token.ensures tt refl c.in_default.in_default-own.rest c.refuse.ensures
