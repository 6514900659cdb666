-- `closing::type_of_node` meets its contract. By the number of children.
use Rattle.std.proofs.Common.{arith}
use Rattle.closing.proofs.WayLaws.{counts, has_one, has_two, has_three, has_none}
use Rattle.closing.proofs.type_of_node.Goals as goal
use Rattle.judge.specs.NodeTable.{node_of}
use Rattle.node_shape.specs.Shapes.{shape_held}

pub returns-then-s : goal.returns-then-s
returns-then-s c = counts (shape_held c.args.s) (node_of c.args.n) c.args.nodes.now c.args.m c.if-s.true c.thresh_type.ensures

pub returns-in-1 : goal.returns-in-1
returns-in-1 c = has_one (shape_held c.args.s) (node_of c.args.n) c.args.nodes.now c.args.m c.if-s.false c.in-1.is c.type_at.ensures c.cast.ensures

pub returns-in-2 : goal.returns-in-2
returns-in-2 c = has_two (shape_held c.args.s) (node_of c.args.n) c.args.nodes.now c.args.m c.if-s.false c.in-2.is c.pair_type.ensures

pub returns-in-3 : goal.returns-in-3
returns-in-3 c = has_three (shape_held c.args.s) (node_of c.args.n) c.args.nodes.now c.args.m c.if-s.false c.in-3.is c.and_or_type.ensures

pub returns-in_default : goal.returns-in_default
returns-in_default c = has_none (shape_held c.args.s) (node_of c.args.n) c.args.nodes.now c.args.m c.if-s.false (λ e. omega arith) (λ e. omega arith) (λ e. omega arith) c.leaf_of.ensures c.leaf_type.ensures
