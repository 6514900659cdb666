-- `node_records::copy_out` meets its contract: the loop of Copied.antt. What is still to be written over is as it was at the start.
use Rattle.std.proofs.Common.{◌≡◌, length}
use Rattle.node_records.proofs.Copied.{over}
use Rattle.node_records.proofs.copy_out.Given as goal

abbrev pub invariant-loop-i : goal.invariant-loop-i
invariant-loop-i l = record {
  same : length l.records ≡ length l.initial.records;
  left : over l.flat l.n 0 l.i l.records ≡ over l.flat l.n 0 0 l.initial.records;
}
