-- `clerk::turn` meets its contract. Line after line of the part (TurningLaws); the measure is what is left of it.
use Prim.Native.Nat.{◌-◌}
use Rattle.clerk.proofs.TurningLaws.{Turning}
use Rattle.clerk.proofs.turn.Given as goal
use Rattle.clerk.specs.Owed.{owed, leaves}
use lib.ListN.{length, take}
use mathlib.Core.List.{◌++◌}

abbrev pub invariant-loop-used : goal.invariant-loop-used
invariant-loop-used l =
    Turning l.part (length l.part) (take l.initial.held.used l.initial.out ++ owed l.initial.held l.part l.initial.script l.initial.tables.nodes l.initial.tables.keys) (leaves l.initial.held l.part l.initial.script) l.held l.script l.tables.nodes l.tables.keys l.out

abbrev pub decreases-loop-used : goal.decreases-loop-used
decreases-loop-used l =
    length l.part - l.held.at
