-- `pieces::enter_thresh` meets its contract.
use Rattle.std.proofs.Common.{◌+◌, ◌*◌}
use Rattle.pieces.proofs.EntryLaws.{AddingFrom}
use Rattle.pieces.proofs.enter_thresh.Given as goal

abbrev pub invariant-loop-i : goal.invariant-loop-i
invariant-loop-i l = AddingFrom l.initial.work l.work l.w l.further l.number l.place l.i (l.w + 2 + 2 * l.i)
