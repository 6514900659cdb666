-- `script_length::ends_fusible` meets its contract. The walk of WalkLaws.
use Rattle.script_length.proofs.WalkLaws.{fusible_there, plain_there, to_first, to_second, nothing_left}
use Rattle.script_length.proofs.ends_fusible.Goals as goal

pub returns-in-Fusible : goal.returns-in-Fusible
returns-in-Fusible c = fusible_there c.args.nodes.now c.args.m c.loop-at.at c.ending_of.result c.loop-at.invariant c.loop-at-test.true c.ending_of.ensures c.in-Fusible.is

pub returns-in-Plain : goal.returns-in-Plain
returns-in-Plain c = plain_there c.args.nodes.now c.args.m c.loop-at.at c.ending_of.result c.loop-at.invariant c.loop-at-test.true c.ending_of.ensures c.in-Plain.is

pub loop-at-preserved-in-OfFirst : goal.loop-at-preserved-in-OfFirst
loop-at-preserved-in-OfFirst c = to_first c.args.nodes.now c.args.m c.loop-at.at c.ending_of.result c.loop-at.invariant c.loop-at-test.true c.ending_of.ensures c.in-OfFirst.is

pub loop-at-preserved : goal.loop-at-preserved
loop-at-preserved c = to_second c.args.nodes.now c.args.m c.loop-at.at c.ending_of.result c.loop-at.invariant c.loop-at-test.true c.ending_of.ensures c.under_newest-at.result c.in-OfSecond.is c.under_newest-at.ensures

pub returns : goal.returns
returns c = nothing_left c.args.nodes.now c.args.m c.loop-at.at c.loop-at.invariant c.loop-at-test.false
