-- `multis::multi_keys` meets its contract: the loop of MultiLaws.
use Rattle.multis.proofs.MultiLaws.{KeysRead}
use Rattle.multis.proofs.multi_keys.Given as goal

abbrev pub invariant-loop : goal.invariant-loop
invariant-loop l = KeysRead l.segwit l.script l.from.table.now l.from.left l.n l.tokens l.counter
