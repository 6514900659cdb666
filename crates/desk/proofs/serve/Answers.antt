-- `desk::serve` meets its contract: a part that a read gave has bytes, and is answered (ServingLaws).
use Rattle.desk.proofs.SendingLaws.{all_sent}
use Rattle.desk.proofs.ServingLaws.{part_answered}
use Rattle.calls.specs.declared.Part.{Part}
use Rattle.desk.proofs.serve.Goals as goal
use Rattle.desk.proofs.serve.Goals.{in-Ok, in-Err}
use Prim.Native.Nat.{◌<◌}
use lib.ListN.{take}
use mathlib.Core.Path.{sym, subst}

pub loop-part-preserved : goal.loop-part-preserved
loop-part-preserved c =
    part_answered _ c.loop-part.line c.loop-part.script (take c.match-read.part.n c.next-read.new.input) _ _ c.loop-part.invariant
    (all_sent _ c.answer_part.result c.in_ok-left.was c.answer_part.ensures
    (elim c.match-read.branch [ in-Ok w ↦ subst (λ (part : Part). 0 < part.n) (sym w.part-is) w.in-Ok.ensures.some.0 | in-Err w ↦ absurd (c.in_default.not-Err _ w.read-is) ]))
