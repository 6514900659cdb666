-- `judge::thresh` meets its contract. The loop of ThresholdLaws.
use Rattle.judge.proofs.ThresholdLaws.{begun, child_refused, again}
use Rattle.judge.proofs.thresh.Goals as goal

pub loop-i-init : goal.loop-i-init
loop-i-init c = begun c.args.nodes.now c.args.m c.args.k c.args.n c.requires c.no_children-earlier.ensures

pub returns-in_default : goal.returns-in_default
returns-in_default c = child_refused c.args.nodes.now c.args.m c.args.k c.args.n c.loop-i.invariant c.loop-i-test.true c.type_at.ensures c.threshold_child-answer.ensures c.in_default.is c.reason.ensures

pub loop-i-preserved : goal.loop-i-preserved
loop-i-preserved c = again c.args.nodes.now c.args.m c.args.k c.args.n c.loop-i.invariant c.loop-i-test.true c.type_at.ensures c.threshold_child-answer.ensures c.in-Ok.is c.size_at-child_size.ensures
