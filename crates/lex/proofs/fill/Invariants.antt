-- `lex::fill` meets its contract.
use Prim.Native.Nat.{◌-◌}
use Rattle.lex.proofs.FillLaws.{Filling}
use Rattle.lex.proofs.fill.Given as goal
use lib.ListN.{length}

abbrev pub invariant-loop-at : goal.invariant-loop-at
invariant-loop-at l = Filling l.s (length l.initial.t) l.t l.at l.n l.last

abbrev pub decreases-loop-at : goal.decreases-loop-at
decreases-loop-at l = length l.s - l.at
