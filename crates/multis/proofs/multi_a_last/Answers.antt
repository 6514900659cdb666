-- `multis::multi_a_last` meets its contract: token by token, by TakenLaws of `row`.
use Rattle.multis.proofs.MultiALaws.{not_added, behind}
use Rattle.multis.proofs.MultiALaws.{not_added}
use Rattle.multis.proofs.multi_a_last.Goals as goal
use Rattle.row.proofs.TakenLaws.{dry, onward, unfit}
use mathlib.Core.Path.{refl}

pub returns-in_err-token : goal.returns-in_err-token
returns-in_err-token c = λ script passed. dry c.args.segwit _ script c.args.tokens.table.now c.args.tokens.left c.from_residual.result c.in_err-token.ensures c.from_residual.ensures.1

pub returns-in-6 : goal.returns-in-6
returns-in-6 c = λ script passed. onward c.args.segwit _ script c.args.tokens.table.now c.args.tokens.left c.in_ok-token.ensures 6 _ c.after_check_sig.result c.in-6.is refl (behind c.args.segwit c.args.tokens.table.now c.args.tokens.left c.args.k c.args.n c.after_check_sig.result c.in_ok-token.ensures c.after_check_sig.ensures script passed)

pub returns-in_default : goal.returns-in_default
returns-in_default c = λ script passed. unfit c.args.segwit _ script c.args.tokens.table.now c.args.tokens.left c.in_ok-token.ensures tt refl ((tt, not_added c.args.tokens.table.now c.args.tokens.left c.in_ok-token.ensures c.requires.left_value), c.in_default.in_default-own.rest.1) c.refuse.ensures
