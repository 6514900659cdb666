-- `script_length::multi_bytes` meets its contract. A number's push has at most five bytes, so nothing overflows.
use Rattle.script_length.proofs.KindLaws.{at_most_five, multi_counts}
use Rattle.script_length.proofs.multi_bytes.Goals as goal
use native.Mathlib.Omega.{arith}

pub overflow_add-result : goal.overflow_add-result
overflow_add-result c = omega (arith, c.number_bytes.ensures, at_most_five c.args.k, c.ranges.n)

pub overflow_add-result-2 : goal.overflow_add-result-2
overflow_add-result-2 c = omega (arith, c.number_bytes.ensures, at_most_five c.args.k, c.number_bytes-2.ensures, at_most_five c.args.n, c.ranges.n)

pub overflow_add-result-3 : goal.overflow_add-result-3
overflow_add-result-3 c = omega (arith, c.number_bytes.ensures, at_most_five c.args.k, c.number_bytes-2.ensures, at_most_five c.args.n, c.ranges.n)

pub returns : goal.returns
returns c = multi_counts c.args.k c.args.n (omega (arith, c.ranges.n)) c.number_bytes.ensures c.number_bytes-2.ensures
