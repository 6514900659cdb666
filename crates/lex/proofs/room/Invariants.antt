-- `lex::room` meets its contract.
use Prim.Native.Nat.{◌-◌}
use Rattle.lex.proofs.FillLaws.{Counting}
use Rattle.lex.proofs.room.Given as goal
use lib.ListN.{length}

abbrev pub invariant-loop-at : goal.invariant-loop-at
invariant-loop-at l = Counting l.s l.at l.n l.last

abbrev pub decreases-loop-at : goal.decreases-loop-at
decreases-loop-at l = length l.s - l.at
