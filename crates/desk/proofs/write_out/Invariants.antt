-- `desk::write_out` meets its contract. Each turn leaves less to be written (SendingLaws).
use Prim.Native.Nat.{◌+◌}
use Rattle.clerk.specs.Owed.{owed, leaves}
use Rattle.desk.proofs.SendingLaws.{Sending}
use Rattle.desk.proofs.write_out.Given as goal
use lib.ListN.{length, take}
use mathlib.Core.List.{◌++◌}

abbrev pub invariant-loop-held : goal.invariant-loop-held
invariant-loop-held l =
    Sending (length l.part) l.part (take l.initial.held.used l.initial.out ++ owed l.initial.held l.part l.initial.script l.initial.tables.nodes l.initial.tables.keys) (leaves l.initial.held l.part l.initial.script) l.held l.script l.tables.nodes l.tables.keys l.out

abbrev pub decreases-loop-held : goal.decreases-loop-held
decreases-loop-held l =
    length (owed l.held l.part l.script l.tables.nodes l.tables.keys) + length (take l.held.used l.out)
