-- `judge::reduce2` meets its contract. Refused or made, the second root lies under the first tree.
use Rattle.judge.proofs.ReductionLaws.{two_fit, two_refused, two_made}
use Rattle.judge.proofs.reduce2.Goals as goal

pub returns-in_default : goal.returns-in_default
returns-in_default c = two_refused c.args.m c.args.nodes.now (two_fit c.args.m c.args.nodes.now c.requires c.size_at-x_size.ensures c.size_at-y_size.ensures).first c.size_at-x_size.ensures c.args.kind c.type_at.ensures c.type_at-2.ensures c.combine-answer.ensures c.in_default.is c.reason.ensures

pub returns : goal.returns
returns c = two_made c.args.m c.args.nodes.now (two_fit c.args.m c.args.nodes.now c.requires c.size_at-x_size.ensures c.size_at-y_size.ensures).first c.size_at-x_size.ensures c.args.kind c.type_at.ensures c.type_at-2.ensures c.combine-answer.ensures c.in-Ok.is c.size_at-y_size.ensures c.typed.ensures
