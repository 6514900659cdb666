-- `expressions::after_equal` meets its contract: token by token, by TakenLaws of `row`.
use Prim.Native.Nat.{◌+◌}
use Rattle.expressions.proofs.after_equal.Goals as goal
use Rattle.row.proofs.TakenLaws.{dry, arm, onward, unfit}
use lib.ListN.{take, drop}
use mathlib.Core.Path.{refl}
use mathlib.Core.Path.{ap}
use Rattle.row.specs.Request.{reading_of}

pub returns-in_err-token : goal.returns-in_err-token
returns-in_err-token c = λ segwit script. dry segwit _ script c.args.tokens.table.now c.args.tokens.left c.from_residual.result c.in_err-token.ensures c.from_residual.ensures.1

pub returns-in-30 : goal.returns-in-30
returns-in-30 c = λ segwit script. onward segwit _ script c.args.tokens.table.now c.args.tokens.left c.in_ok-token.ensures 30 _ c.after_bytes32.result c.in-30.is refl (c.after_bytes32.ensures segwit script (take 32 (drop (c.in_ok-token.token.place + 1) script)))

pub returns-in-29 : goal.returns-in-29
returns-in-29 c = λ segwit script. onward segwit _ script c.args.tokens.table.now c.args.tokens.left c.in_ok-token.ensures 29 _ c.after_equal_hash20.result c.in-29.is refl (c.after_equal_hash20.ensures segwit script (take 20 (drop (c.in_ok-token.token.place + 1) script)))

pub returns-in-28 : goal.returns-in-28
returns-in-28 c = λ segwit script. arm segwit _ script c.args.tokens.table.now c.args.tokens.left c.in_ok-token.ensures 28 c.in-28.is (ap (reading_of script c.args.tokens.table.now) c.ask.ensures)

pub returns-in_default : goal.returns-in_default
returns-in_default c = λ segwit script. unfit segwit _ script c.args.tokens.table.now c.args.tokens.left c.in_ok-token.ensures tt refl c.in_default.in_default-own.rest c.refuse.ensures
