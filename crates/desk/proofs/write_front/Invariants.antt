-- `desk::write_front` meets its contract. Each write takes some of the bytes that wait (SendingLaws).
use Rattle.desk.proofs.SendingLaws.{Crossed}
use Rattle.desk.proofs.write_front.Given as goal

abbrev pub invariant-loop-left : goal.invariant-loop-left
invariant-loop-left l = Crossed l.initial.left l.left

abbrev pub decreases-loop-left : goal.decreases-loop-left
decreases-loop-left l = l.left.used
