-- `locks::after_verify_equal_hash20_hash160` meets its contract: token by token, by TakenLaws of `row`.
use Rattle.locks.proofs.after_verify_equal_hash20_hash160.Goals as goal
use Rattle.row.proofs.TakenLaws.{dry, arm, onward, unfit}
use mathlib.Core.Path.{refl}
use mathlib.Core.Path.{ap}
use Rattle.row.specs.Request.{reading_of}

pub returns-in_err-token : goal.returns-in_err-token
returns-in_err-token c = λ segwit script bytes. dry segwit _ script c.args.tokens.table.now c.args.tokens.left c.from_residual.result c.in_err-token.ensures c.from_residual.ensures.1

pub returns-in-14 : goal.returns-in-14
returns-in-14 c = λ segwit script bytes. arm segwit _ script c.args.tokens.table.now c.args.tokens.left c.in_ok-token.ensures 14 c.in-14.is (ap (reading_of script c.args.tokens.table.now) c.ask.ensures)

pub returns-in-23 : goal.returns-in-23
returns-in-23 c = λ segwit script bytes. onward segwit _ script c.args.tokens.table.now c.args.tokens.left c.in_ok-token.ensures 23 _ c.lock_equal.result c.in-23.is refl (c.lock_equal.ensures segwit script bytes)

pub returns-in_default : goal.returns-in_default
returns-in_default c = λ segwit script bytes. unfit segwit _ script c.args.tokens.table.now c.args.tokens.left c.in_ok-token.ensures tt refl c.in_default.in_default-own.rest c.refuse.ensures
