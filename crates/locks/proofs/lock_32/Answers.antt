-- `locks::lock_32` meets its contract: token by token, by TakenLaws of `row`.
use Rattle.locks.proofs.lock_32.Goals as goal
use Rattle.locks.proofs.lock_32.Goals.{in_default-via-in-28+else-token-eq32, in_default-via-in_default-1}
use Rattle.row.proofs.TakenLaws.{dry, onward, unfit}
use Rattle.row.proofs.TakenLaws.{number_is, other_number}
use mathlib.Core.Path.{refl}

pub returns-in_err-token : goal.returns-in_err-token
returns-in_err-token c = λ segwit script bytes. dry segwit _ script c.args.tokens.table.now c.args.tokens.left c.from_residual.result c.in_err-token.ensures c.from_residual.ensures.1

pub returns-in-28 : goal.returns-in-28
returns-in-28 c = λ segwit script bytes. onward segwit _ script c.args.tokens.table.now c.args.tokens.left c.in_ok-token.ensures 28 _ c.lock_size.result c.in-28.is (number_is _ 32 _ _ c.if-token-eq32.true) (c.lock_size.ensures segwit script bytes)

pub returns-in_default : goal.returns-in_default
returns-in_default c =
    λ segwit script bytes.
    elim c.in_default.branch [
      | in_default-via-in-28+else-token-eq32 w ↦ other_number segwit _ script c.args.tokens.table.now c.args.tokens.left c.in_ok-token.ensures 32 _ w.in-28.is refl w.if-token-eq32.false c.refuse.ensures
      | in_default-via-in_default-1 w ↦ unfit segwit _ script c.args.tokens.table.now c.args.tokens.left c.in_ok-token.ensures tt refl w.in_default-1.rest c.refuse.ensures
    ]
