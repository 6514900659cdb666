-- `script_length::thresh_bytes` meets its contract. A number's push has at most five bytes, so nothing overflows.
use Rattle.script_length.proofs.KindLaws.{at_most_five, thresh_counts}
use Rattle.script_length.proofs.thresh_bytes.Goals as goal
use native.Mathlib.Omega.{arith}

pub overflow_add-result : goal.overflow_add-result
overflow_add-result c = omega (arith, c.number_bytes.ensures, at_most_five c.args.k, c.ranges.n)

pub returns : goal.returns
returns c = thresh_counts c.args.k c.args.n (omega (arith, c.ranges.n)) c.number_bytes.ensures
