-- `listing::put_digits` meets its contract. The loop of WriteLaws: what is left to write comes to the whole number.
use Rattle.listing.proofs.WriteLaws.{Writing}
use Rattle.listing.proofs.put_digits.Given as goal

abbrev pub invariant-loop-left : goal.invariant-loop-left
invariant-loop-left l = Writing l.initial.out l.at l.width l.n l.out l.rest l.left
