-- `pieces::enter_thresh` meets its contract.
use Rattle.pieces.proofs.EntryLaws.{thresh_start, thresh_turned, thresh_ended}
use Rattle.pieces.proofs.enter_thresh.Goals as goal

pub loop-i-preserved : goal.loop-i-preserved
loop-i-preserved c = λ before e. thresh_turned (c.loop-i.invariant before e) c.entry-in-loop-i.result c.entry-in-loop-i-2.result c.loop-i-test.true c.entry-in-loop-i.ensures c.entry-in-loop-i-2.ensures

pub returns : goal.returns
returns c = thresh_ended ((c.loop-i.invariant c.args.work.now (thresh_start c.args.work.now c.args.w c.args.number c.args.place c.entry.result c.entry-2.result c.entry.ensures c.entry-2.ensures))) c.entry-3.result c.loop-i-test.false c.entry-3.ensures
