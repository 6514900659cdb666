-- `clerk::lay_out` meets its contract. Line after line (LayingLaws).
use Rattle.clerk.proofs.LayingLaws.{line_laid, full, handed}
use Rattle.clerk.proofs.lay_out.Goals as goal
use Rattle.std.proofs.Common.{rules}

pub returns-in_default : goal.returns-in_default
returns-in_default c = handed c.args.hand c.args.nodes.now c.args.keys.now _ c.put_line.new.out c.loop-next.next c.loop-next.end c.moved.result c.moved.ensures (full c.args.hand.header c.args.nodes.now c.args.keys.now _ c.loop-next.out c.loop-next.next c.loop-next.end c.put_line.new.out c.loop-next.invariant (search rules) c.in_default.ensures)

pub loop-next-preserved : goal.loop-next-preserved
loop-next-preserved c = line_laid c.args.hand.header c.args.nodes.now c.args.keys.now _ c.loop-next.out c.loop-next.next c.loop-next.end c.put_line.new.out c.in-Some.more _ c.loop-next.invariant (search rules) c.count_lines-lines.ensures c.loop-next-test.true c.in-Some.ensures
