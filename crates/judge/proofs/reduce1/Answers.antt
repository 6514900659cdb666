-- `judge::reduce1` meets its contract. Refused or made, the node read is the newest of the list.
use Rattle.judge.proofs.ReductionLaws.{one_refused, one_made}
use Rattle.judge.proofs.reduce1.Goals as goal

pub returns-in_default : goal.returns-in_default
returns-in_default c = one_refused c.args.kind c.args.m c.args.nodes.now c.requires.subtrees.0 c.type_at.ensures c.cast-answer.ensures c.in_default.is c.reason.ensures

pub returns : goal.returns
returns c = one_made c.args.kind c.args.m c.args.nodes.now c.requires.subtrees.0 c.type_at.ensures c.cast-answer.ensures c.in-Ok.is c.size_at-size.ensures c.typed.ensures
