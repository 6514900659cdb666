-- `rewrite::Rest::skip_to_digit` meets its contract. The measure is the length of what is left.
use Rattle.rewrite.proofs.Rest.skip_to_digit.Given as goal
use lib.ListN.{length}

abbrev pub invariant-loop-self : goal.invariant-loop-self
invariant-loop-self l = Unit {0}

abbrev pub decreases-loop-self : goal.decreases-loop-self
decreases-loop-self l = length l.self.text.now
