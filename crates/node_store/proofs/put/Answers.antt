-- `node_store::put` meets its contract.
use Prim.Native.Nat.{◌*◌}
use native.Mathlib.Omega.{arith}
use Rattle.judge.specs.NodeTable.{node_of}
use Rattle.node_store.proofs.NodeLaws.{nine_copied}
use Rattle.node_store.proofs.put.Goals as goal

pub returns : goal.returns
returns c = nine_copied c.args.nodes.now (9 * c.args.m) (node_of c.args.x) (omega arith) (omega (arith, c.requires)) c.copy_from_slice.ensures.after
