-- `node_records::copy_in` meets its contract: the loop of Stored.antt. What is still to be stored is as it was at the start.
use Rattle.std.proofs.Common.{◌≡◌, length, drop}
use Rattle.node_records.proofs.Stored.{put_all}
use Rattle.node_records.proofs.copy_in.Given as goal

abbrev pub invariant-loop-i : goal.invariant-loop-i
invariant-loop-i l = record {
  same : length l.flat ≡ length l.initial.flat;
  left : put_all l.i (drop l.i l.records) l.flat ≡ put_all 0 l.records l.initial.flat;
}
