-- A well-formed node's places lie in range, and so do the keys that it names. Assumes nothing.
use Rattle.std.specs.Prelude.{◌≡◌, true, false, ◌&&◌, List, ℕ, ◌+◌, ◌≤◌, leb, length}
use Rattle.std.proofs.Math.Option.{some}
use Rattle.std.proofs.Common.{leb-true}
use Rattle.tables.proofs.BoolLaws.{left_true, right_true}
use Rattle.standard.specs.Tree.{Trees}
use Rattle.standard.specs.Table.{Node}
use Rattle.encoding.specs.Form.{Shape, shape, keys_named, unused_are_zero, in_range, all_within, right_size, formed_as}

pub in_range_lem : (material : ℕ) (keys : List ℕ) (s : Shape) (n : Node) (ts : Trees) → formed_as material keys (some s) n ts ≡ true → in_range material keys s n ≡ true
in_range_lem material keys s n ts f = left_true (in_range material keys s n) (right_size s n ts) (right_true (unused_are_zero s n) (in_range material keys s n && right_size s n ts) f)

pub keys_range : (material : ℕ) (keys : List ℕ) (bytes : ℕ) (n : Node) (ts : Trees) → leb 1 bytes ≡ true → formed_as material keys (some (shape true false 0 bytes 0)) n ts ≡ true
    → (n.place + n.count ≤ length keys) × (all_within bytes material (keys_named n keys) ≡ true)
keys_range material keys bytes n ts some_bytes f =
    let r : (leb (n.place + n.count) (length keys) && all_within bytes material (keys_named n keys)) ≡ true = rw some_bytes at (in_range_lem material keys (shape true false 0 bytes 0) n ts f) in (
      leb-true (n.place + n.count) (length keys) (left_true (leb (n.place + n.count) (length keys)) (all_within bytes material (keys_named n keys)) r),
      right_true (leb (n.place + n.count) (length keys)) (all_within bytes material (keys_named n keys)) r,
    )
