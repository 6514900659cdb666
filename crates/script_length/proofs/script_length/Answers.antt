-- `script_length::script_length` meets its contract. The sum of SumLaws.
use Rattle.script_length.proofs.SumLaws.{above, ended}
use Rattle.script_length.proofs.script_length.Goals as goal

pub returns-then-total-gt-SCRIPT_LIMIT : goal.returns-then-total-gt-SCRIPT_LIMIT
returns-then-total-gt-SCRIPT_LIMIT c = above c.args.segwit c.args.nodes.now c.loop-i.total c.loop-i.i c.own_bytes-total.result c.loop-i.invariant c.loop-i-test.true c.own_bytes-total.ensures.0 c.if-total-gt-SCRIPT_LIMIT.true

pub returns : goal.returns
returns c = ended c.args.segwit c.args.nodes.now c.loop-i.total c.loop-i.i c.loop-i.invariant c.loop-i-test.false
