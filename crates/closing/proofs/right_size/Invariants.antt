-- `closing::right_size` meets its contract. The loop over a node's children, of WayLaws.
use Rattle.closing.proofs.WayLaws.{Sizing}
use Rattle.closing.proofs.right_size.Given as goal

abbrev pub invariant-loop : goal.invariant-loop
invariant-loop l = Sizing l.nodes l.m l.children l.size l.at l.counter
