-- A turn: lines are taken and laid out while the output has room, and what is laid out with what is still owed stays what was owed at first. Assumes nothing.
use mathlib.Core.Path.{◌≡◌}
use mathlib.Core.List.{List, ◌++◌}
use Prim.Native.Nat.{ℕ, ◌≤◌}
use lib.ListN.{take}
use Rattle.hex_line.specs.Feeding.{Fed}
use Rattle.clerk.specs.declared.Hand.{Hand}
use Rattle.clerk.specs.Owed.{line_count, owed, leaves}

pub record Turning (part : List ℕ) (n : ℕ) (text : List ℕ) (left : Fed) (hand : Hand) (script nodes keys out : List ℕ) : Type 0 where
  pub within : hand.at ≤ n
  pub small : hand.used ≤ 8192
  pub idle : hand.used ≡ 0 → line_count hand.header ≤ hand.next
  pub whole : take hand.used out ++ owed hand part script nodes keys ≡ text
  pub leaving : leaves hand part script ≡ left
