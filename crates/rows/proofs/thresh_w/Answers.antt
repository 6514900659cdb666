-- `rows::thresh_w` meets its contract: EntryLaws.
use Rattle.rows.proofs.EntryLaws.{no_child, child_more, first_child}
use Rattle.rows.proofs.thresh_w.Goals as goal

pub returns-in_err-token : goal.returns-in_err-token
returns-in_err-token c = λ segwit script. no_child segwit script c.args.tokens.table.now c.args.tokens.left c.args.k c.args.n c.from_residual.result c.in_err-token.ensures c.from_residual.ensures.1

pub returns-in-3 : goal.returns-in-3
returns-in-3 c = λ segwit script. child_more segwit script c.args.tokens.table.now c.args.tokens.left c.args.k c.args.n c.in_ok-token.ensures c.in-3.is c.ask.ensures

pub returns-in_default : goal.returns-in_default
returns-in_default c = λ segwit script. first_child segwit script c.args.tokens.table.now c.args.tokens.left c.args.k c.args.n c.in_ok-token.ensures c.in_default.in_default-own.rest c.un_next.ensures c.ask-in_default.ensures
