-- `clerk::lay_out` meets its contract. Line after line (LayingLaws).
use Rattle.clerk.proofs.LayingLaws.{Laying}
use Rattle.clerk.proofs.lay_out.Given as goal
use Rattle.clerk.specs.Owed.{rest_of}
use lib.ListN.{take}
use mathlib.Core.List.{◌++◌}

abbrev pub invariant-loop-next : goal.invariant-loop-next
invariant-loop-next l = Laying l.hand.header l.nodes l.keys (take l.used l.initial.out ++ rest_of l.hand.header l.hand.next l.nodes l.keys) l.out l.next l.end
