-- `calls::next` meets its contract. The measure is the number of reads left.
use Rattle.std.proofs.Common.{◌≤◌}
use Rattle.calls.proofs.next.Given as goal

abbrev pub invariant-loop-reads : goal.invariant-loop-reads
invariant-loop-reads l = l.reads.left ≤ l.initial.reads.left

abbrev pub decreases-loop-reads : goal.decreases-loop-reads
decreases-loop-reads l = l.reads.left
