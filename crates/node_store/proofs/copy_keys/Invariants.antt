-- `node_store::copy_keys` meets its contract.
use Rattle.node_store.proofs.KeyLaws.{Copying}
use Rattle.node_store.proofs.copy_keys.Given as goal

abbrev pub invariant-loop-i : goal.invariant-loop-i
invariant-loop-i l = Copying l.tokens l.initial.keys l.keys l.from l.n l.fn.pushed.first l.fn.pushed.stride l.i l.at
