-- `clerk::receive` meets its contract. A part begins, or the input has ended (TakingLaws).
use Rattle.clerk.proofs.TakingLaws.{last_came}
use Rattle.clerk.proofs.receive.Goals as goal
use native.Mathlib.Omega.{arith}

pub returns : goal.returns
returns c = last_came c.args.line c.args.n c.args.script.now c.answer.new.tables.nodes c.answer.new.tables.keys c.answer.result (omega (arith, c.if-n-gt0.false)) c.is_nothing.ensures c.if-is_nothing.false c.answer.ensures
