-- `multis::multi_a_keys` meets its contract: the loop of MultiALaws.
use Rattle.multis.proofs.MultiALaws.{KeysIn}
use Rattle.multis.proofs.multi_a_keys.Given as goal

abbrev pub invariant-keys : goal.invariant-keys
invariant-keys l = KeysIn l.segwit l.from l.k l.tokens l.n

abbrev pub decreases-keys : goal.decreases-keys
decreases-keys l = l.tokens.left

abbrev pub invariant-row : goal.invariant-row
invariant-row l = Unit {0}

abbrev pub decreases-row : goal.decreases-row
decreases-row l = 0
