-- What a type rule answers (01, section "Types"): the type, or why there is none.
use Rattle.std.specs.Prelude.{Result}
use Rattle.correctness.specs.declared.Correctness.{Correctness}
use Rattle.correctness.specs.declared.ErrorKind.{ErrorKind}

abbrev pub Typed : Type 0
Typed = Result Correctness ErrorKind
