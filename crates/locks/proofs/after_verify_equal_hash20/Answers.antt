-- `locks::after_verify_equal_hash20` meets its contract: token by token, by TakenLaws of `row`.
use Rattle.locks.proofs.after_verify_equal_hash20.Goals as goal
use Rattle.row.proofs.TakenLaws.{dry, onward, unfit}
use mathlib.Core.Path.{refl}

pub returns-in_err-token : goal.returns-in_err-token
returns-in_err-token c = λ segwit script bytes. dry segwit _ script c.args.tokens.table.now c.args.tokens.left c.from_residual.result c.in_err-token.ensures c.from_residual.ensures.1

pub returns-in-25 : goal.returns-in-25
returns-in-25 c = λ segwit script bytes. onward segwit _ script c.args.tokens.table.now c.args.tokens.left c.in_ok-token.ensures 25 _ c.after_verify_equal_hash20_hash160.result c.in-25.is refl (c.after_verify_equal_hash20_hash160.ensures segwit script bytes)

pub returns-in-24 : goal.returns-in-24
returns-in-24 c = λ segwit script bytes. onward segwit _ script c.args.tokens.table.now c.args.tokens.left c.in_ok-token.ensures 24 _ c.lock_verify.result c.in-24.is refl (c.lock_verify.ensures segwit script bytes)

pub returns-in_default : goal.returns-in_default
returns-in_default c = λ segwit script bytes. unfit segwit _ script c.args.tokens.table.now c.args.tokens.left c.in_ok-token.ensures tt refl c.in_default.in_default-own.rest c.refuse.ensures
