-- `record_cases::show_tokens` meets its contract.
use Prim.Native.Nat.{◌*◌, ◌≤◌}
use Rattle.record_cases.proofs.show_tokens.Given as goal
use lib.ListN.{length}

abbrev pub invariant-loop-left : goal.invariant-loop-left
invariant-loop-left l = 3 * l.left ≤ length l.tokens

abbrev pub decreases-loop-left : goal.decreases-loop-left
decreases-loop-left l = l.left
