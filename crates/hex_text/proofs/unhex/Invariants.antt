-- `hex_text::unhex` meets its contract.
use Rattle.hex_text.proofs.ReadingLaws.{Reading}
use Rattle.hex_text.proofs.unhex.Given as goal

abbrev pub invariant-loop-n : goal.invariant-loop-n
invariant-loop-n l = Reading l.src l.initial.dst l.dst l.n
