-- `rows::maybe_and_v` meets its contract: AndVLaws.
use Rattle.rows.proofs.AndVLaws.{maybe_yes, maybe_no}
use Rattle.rows.proofs.maybe_and_v.Goals as goal

pub returns-then-is_and_v : goal.returns-then-is_and_v
returns-then-is_and_v c = λ segwit script. maybe_yes segwit script c.args.tokens.table.now c.args.tokens.left (c.is_and_v.ensures script) c.if-is_and_v.true c.ask.ensures

pub returns : goal.returns
returns c = λ segwit script. maybe_no segwit script c.args.tokens.table.now c.args.tokens.left (c.is_and_v.ensures script) c.if-is_and_v.false c.ask-2.ensures
