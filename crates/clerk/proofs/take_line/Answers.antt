-- `clerk::take_line` meets its contract. The part ends within the line, or the line ends (TakingLaws).
use Rattle.clerk.proofs.TakingLaws.{part_ended, line_ended}
use Rattle.clerk.proofs.take_line.Goals as goal
use native.Mathlib.Omega.{arith}

pub returns-then-part-stop : goal.returns-then-part-stop
returns-then-part-stop c = part_ended c.args.part.now c.args.hand c.args.script.now c.args.tables.now.nodes c.args.tables.now.keys c.feed_line-stop.result.line c.feed_line-stop.new.script c.feed_line-stop.result.at 0 c.requires.0 c.requires.1 c.feed_line-stop.ensures c.if-part-stop.true

pub returns : goal.returns
returns c = line_ended c.args.part.now c.args.hand c.args.script.now c.answer.new.tables.nodes c.answer.new.tables.keys c.feed_line-stop.result.line c.feed_line-stop.new.script c.feed_line-stop.result.at 0 c.answer.result c.requires.1 c.feed_line-stop.ensures (omega (arith, c.if-part-stop.false)) c.answer.ensures
