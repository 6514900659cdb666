-- `node_store::copy_keys` meets its contract.
use Prim.Native.Nat.{◌<◌}
use native.Mathlib.Omega.{arith}
use lib.ListN.{length}
use Rattle.node_store.proofs.KeyLaws.{saturated, turned}
use Rattle.node_store.proofs.copy_keys.Goals as goal

pub loop-i-preserved : goal.loop-i-preserved
loop-i-preserved c =
    let few : length c.args.tokens.now < 18446744073709551616 = omega arith in
    turned c.loop-i.invariant c.saturating_add-at.result c.offset_at.result c.loop-i-test.true c.offset_at.ensures (saturated c.args.tokens.now c.loop-i.at c.args.pushed.stride few c.saturating_add-at.ensures)
