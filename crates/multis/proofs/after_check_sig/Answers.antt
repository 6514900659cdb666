-- `multis::after_check_sig` meets its contract: MultiALaws.
use Rattle.multis.proofs.MultiALaws.{first_in_segwit, first_in_tapscript}
use Rattle.multis.proofs.after_check_sig.Goals as goal
use Rattle.row.proofs.TakenLaws.{dry, unfit}
use mathlib.Core.Path.{refl}

pub returns-in_err-token : goal.returns-in_err-token
returns-in_err-token c = λ script passed. dry c.args.segwit _ script c.args.tokens.table.now c.args.tokens.left c.from_residual.result c.in_err-token.ensures c.from_residual.ensures.1

pub returns-then-segwit : goal.returns-then-segwit
returns-then-segwit c = λ script passed. first_in_segwit c.args.segwit script c.args.tokens.table.now c.args.tokens.left c.args.k c.args.n c.in_ok-token.ensures c.in-30.is c.if-segwit.true c.refuse.ensures

pub returns-else-segwit : goal.returns-else-segwit
returns-else-segwit c = λ script passed. first_in_tapscript c.args.segwit script c.args.tokens.table.now c.args.tokens.left c.args.k c.args.n c.in_ok-token.ensures c.in-30.is c.if-segwit.false c.requires.n_bound.1 c.requires.n_bound.2 passed c.multi_a_k.ensures

pub returns-in_default : goal.returns-in_default
returns-in_default c = λ script passed. unfit c.args.segwit _ script c.args.tokens.table.now c.args.tokens.left c.in_ok-token.ensures tt refl c.in_default.in_default-own.rest c.refuse-in_default.ensures
