-- `multis::multi_threshold` meets its contract: token by token, by TakenLaws of `row`.
use Prim.Native.Nat.{zero}
use Rattle.multis.proofs.MultiLaws.{multi_is}
use Rattle.multis.proofs.multi_threshold.Goals as goal
use Rattle.row.proofs.TakenLaws.{dry, arm, unfit}
use Rattle.standard.specs.Rows as point
use mathlib.Core.Path.{refl}

pub returns-in_err-token : goal.returns-in_err-token
returns-in_err-token c = λ segwit script passed. dry segwit _ script c.args.tokens.table.now c.args.tokens.left c.from_residual.result c.in_err-token.ensures c.from_residual.ensures.1

pub returns-in-28 : goal.returns-in-28
returns-in-28 c = λ segwit script passed. arm segwit (point.multi_keys zero _) script c.args.tokens.table.now c.args.tokens.left c.in_ok-token.ensures 28 c.in-28.is (multi_is segwit script c.args.tokens.table.now _ c.args.n _ c.args.tokens.left c.requires.le_n.0 c.requires.le_n.1 passed c.multi_k.ensures)

pub returns-in_default : goal.returns-in_default
returns-in_default c = λ segwit script passed. unfit segwit _ script c.args.tokens.table.now c.args.tokens.left c.in_ok-token.ensures tt refl c.in_default.in_default-own.rest c.refuse.ensures
