-- `locks::lock_size` meets its contract: token by token, by TakenLaws of `row`.
use Rattle.locks.proofs.LeafLaws.{lock_is}
use Rattle.locks.proofs.lock_size.Goals as goal
use Rattle.row.proofs.TakenLaws.{dry, arm, unfit}
use mathlib.Core.Path.{refl}

pub returns-in_err-token : goal.returns-in_err-token
returns-in_err-token c = λ segwit script bytes. dry segwit _ script c.args.tokens.table.now c.args.tokens.left c.from_residual.result c.in_err-token.ensures c.from_residual.ensures.1

pub returns-in-21 : goal.returns-in-21
returns-in-21 c = λ segwit script bytes. arm segwit _ script c.args.tokens.table.now c.args.tokens.left c.in_ok-token.ensures 21 c.in-21.is (lock_is script c.args.tokens.table.now c.args.offset c.in_ok-token.token.rest.left c.args.verify c.hash_kind.ensures c.ask.ensures)

pub returns-in_default : goal.returns-in_default
returns-in_default c = λ segwit script bytes. unfit segwit _ script c.args.tokens.table.now c.args.tokens.left c.in_ok-token.ensures tt refl c.in_default.in_default-own.rest c.refuse.ensures
