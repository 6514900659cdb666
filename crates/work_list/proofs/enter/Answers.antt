-- `work_list::enter` meets its contract.
use Rattle.work_list.proofs.WorkLaws.{enters_more, all_small}
use Rattle.work_list.proofs.enter.Goals as goal

pub pack-requires : goal.pack-requires
pack-requires c = all_small c.args.entries.now c.requires.1 c.loop-i.i c.loop-i-test.true

pub loop-i-preserved : goal.loop-i-preserved
loop-i-preserved c = enters_more c.args.work.now c.args.w c.args.entries.now c.loop-i-test.true c.loop-i.invariant c.pack.ensures
