-- `script_length::ends_fusible` meets its contract. The walk of WalkLaws.
use Rattle.script_length.proofs.WalkLaws.{Walking}
use Rattle.script_length.proofs.ends_fusible.Given as goal

abbrev pub invariant-loop-at : goal.invariant-loop-at
invariant-loop-at l = Walking l.nodes l.m l.at

abbrev pub decreases-loop-at : goal.decreases-loop-at
decreases-loop-at l = l.at
