-- `node_shape::value_refusal` meets its contract: a multi_a's refusal, whose keys lie in the key table, is the definition's.
use Rattle.judge.specs.NodeTable.{node_of}
use Rattle.node_shape.proofs.ValueLaws.{multi_a_kind}
use Rattle.node_shape.proofs.value_refusal.Goals as goal

pub returns-in-28 : goal.returns-in-28
returns-in-28 c = multi_a_kind c.args.segwit c.args.material.now c.args.keys.now (node_of c.args.n) c.in-28.is c.requires c.multi_a_refusal.ensures
