-- `hex_line::feed_line` meets its contract. The loop of FeedLineLaws: what is still to feed comes to what was to feed from the start.
use Prim.Native.Nat.{◌≤◌, max}
use Rattle.hex_line.proofs.feed_line.Given as goal
use Rattle.hex_line.specs.Feeding.{fed, line_fed}
use lib.ListN.{length}
use mathlib.Core.Path.{◌≡◌}

abbrev pub invariant-loop-at : goal.invariant-loop-at
invariant-loop-at l =
    (line_fed l.input l.from (fed l.initial.read l.initial.script) ≡ line_fed l.input l.at (fed l.read l.script)) × (l.at ≤ max l.from (length l.input))
