-- How many reads may still follow: none behind the end of standard input. Assumes nothing.
use Rattle.std.specs.Prelude.{ℕ}
use Rattle.calls.specs.declared.Reads.{Reads}

abbrev pub reads_left : Reads → ℕ
reads_left reads = reads.left
