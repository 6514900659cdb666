-- `pieces::enter` meets its contract.
use Rattle.std.proofs.Common.{◌+◌}
use Rattle.pieces.proofs.EntryLaws.{Entering}
use Rattle.pieces.proofs.enter.Given as goal

abbrev pub invariant-loop-i : goal.invariant-loop-i
invariant-loop-i l = Entering l.initial.work l.work l.w l.number l.place l.tags l.i-iterator.iter.iter.rest.now (l.w + l.i-iterator.count)
