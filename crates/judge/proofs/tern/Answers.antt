-- `judge::tern` meets its contract. Refused or made, each root lies under the tree before it.
use Rattle.judge.proofs.ReductionLaws.{three_fit, three_refused, three_made}
use Rattle.judge.proofs.tern.Goals as goal

pub returns-in_default : goal.returns-in_default
returns-in_default c = three_refused c.args.m c.args.nodes.now (three_fit c.args.m c.args.nodes.now c.requires c.size_at-x_size.ensures c.size_at-z_size.ensures c.size_at-y_size.ensures).first c.size_at-x_size.ensures (three_fit c.args.m c.args.nodes.now c.requires c.size_at-x_size.ensures c.size_at-z_size.ensures c.size_at-y_size.ensures).two c.size_at-z_size.ensures c.type_at.ensures c.type_at-2.ensures c.type_at-3.ensures c.and_or-answer.ensures c.in_default.is c.reason.ensures

pub returns : goal.returns
returns c = three_made c.args.m c.args.nodes.now (three_fit c.args.m c.args.nodes.now c.requires c.size_at-x_size.ensures c.size_at-z_size.ensures c.size_at-y_size.ensures).first c.size_at-x_size.ensures (three_fit c.args.m c.args.nodes.now c.requires c.size_at-x_size.ensures c.size_at-z_size.ensures c.size_at-y_size.ensures).two c.size_at-z_size.ensures c.type_at.ensures c.type_at-2.ensures c.type_at-3.ensures c.and_or-answer.ensures c.in-Ok.is c.size_at-y_size.ensures c.typed.ensures
