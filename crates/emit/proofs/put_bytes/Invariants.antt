-- `emit::put_bytes` meets its contract.
use Rattle.std.proofs.Common.{◌≡◌, take}
use Rattle.tables.specs.Tables.{put_at}
use Rattle.emit.proofs.put_bytes.Given as goal

abbrev pub invariant-loop-i : goal.invariant-loop-i
invariant-loop-i l = l.out ≡ put_at l.initial.out l.at (take l.i l.bytes)
