-- `closing::check_tree` meets its contract. The loop over the nodes, of TableLaws.
use Rattle.closing.proofs.TableLaws.{Checking}
use Rattle.closing.proofs.check_tree.Given as goal

abbrev pub invariant-loop-i : goal.invariant-loop-i
invariant-loop-i l = Checking l.source.segwit l.source.nodes.now l.source.keys.now l.source.material.now l.i
