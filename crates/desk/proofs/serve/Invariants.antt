-- `desk::serve` meets its contract. The measure is the number of reads left. The invariant says more than the contract, which can't name the parts
-- that the reads gave: the line at hand is the one that all of them leave open (ServingLaws).
use Rattle.calls.specs.Reads.{reads_left}
use Rattle.desk.proofs.ServingLaws.{Serving}
use Rattle.desk.proofs.serve.Given as goal
use Rattle.hex_line.specs.Feeding.{fed}

abbrev pub invariant-loop-part : goal.invariant-loop-part
invariant-loop-part l = Serving (fed l.initial.line l.initial.script) l.line l.script

abbrev pub decreases-loop-part : goal.decreases-loop-part
decreases-loop-part l = reads_left l.reads
