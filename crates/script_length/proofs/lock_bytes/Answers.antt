-- `script_length::lock_bytes` meets its contract. A number's push has at most five bytes, so nothing overflows.
use Rattle.script_length.proofs.KindLaws.{at_most_five, lock_counts}
use Rattle.script_length.proofs.lock_bytes.Goals as goal
use native.Mathlib.Omega.{arith}

pub overflow_add-result : goal.overflow_add-result
overflow_add-result c = omega (arith, c.number_bytes.ensures, at_most_five c.args.number)

pub returns : goal.returns
returns c = lock_counts c.args.number c.number_bytes.ensures
