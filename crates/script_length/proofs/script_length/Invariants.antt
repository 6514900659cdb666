-- `script_length::script_length` meets its contract. The sum of SumLaws.
use Rattle.script_length.proofs.SumLaws.{Summing}
use Rattle.script_length.proofs.script_length.Given as goal

abbrev pub invariant-loop-i : goal.invariant-loop-i
invariant-loop-i l = Summing l.segwit l.nodes l.total l.i
