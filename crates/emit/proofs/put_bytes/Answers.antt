-- `emit::put_bytes` meets its contract.
use Rattle.std.proofs.Common.{refl}
use Rattle.emit.proofs.ByteLaws.{byte_more}
use Rattle.emit.proofs.put_bytes.Goals as goal

pub loop-i-preserved : goal.loop-i-preserved
loop-i-preserved c = byte_more c.args.out.now c.args.at c.args.bytes.now c.loop-i-test.true c.loop-i.invariant refl
