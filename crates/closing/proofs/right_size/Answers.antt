-- `closing::right_size` meets its contract. The loop over a node's children, of WayLaws.
use Rattle.closing.proofs.WayLaws.{child_inside, sizing_again}
use Rattle.closing.proofs.right_size.Goals as goal
use native.Mathlib.Omega.{arith}

pub overflow_sub-at-in-loop : goal.overflow_sub-at-in-loop
overflow_sub-at-in-loop c = omega (arith, (child_inside c.args.nodes.now c.args.m c.args.children c.args.size c.loop.invariant c.if-at-lt1.false).0, c.size_at.ensures)

pub loop-preserved : goal.loop-preserved
loop-preserved c = sizing_again c.args.nodes.now c.args.m c.args.children c.args.size c.loop.invariant c.loop-test.true c.if-at-lt1.false c.size_at.ensures
