-- `closing::check_root` meets its contract. Test by test.
use Rattle.std.proofs.Common.{refl, ap}
use Rattle.std.specs.Prelude.{not}
use Rattle.closing.proofs.WayLaws.{no_node, more_roots, numbers_behind, not_b, is_b_lem}
use Rattle.closing.proofs.check_root.Goals as goal
use Rattle.closing.proofs.check_root.Goals.{then-count-lt1-via-then-count-lt1, then-count-lt1-via-else-count-lt1+then-size_at-count, then-count-lt1-via-else-count-lt1+else-size_at-count+then-nodes-ne0}

pub returns-then-count-lt1 : goal.returns-then-count-lt1
returns-then-count-lt1 c =
    elim c.then-count-lt1.branch [
      | then-count-lt1-via-then-count-lt1 w ↦ no_node c.args.nodes.now w.if-count-lt1.true refl
      | then-count-lt1-via-else-count-lt1+then-size_at-count w ↦ more_roots c.args.nodes.now w.if-count-lt1.false w.size_at.ensures w.if-size_at-count.true refl
      | then-count-lt1-via-else-count-lt1+else-size_at-count+then-nodes-ne0 w ↦ numbers_behind c.args.nodes.now w.if-count-lt1.false w.size_at.ensures w.if-size_at-count.false w.if-nodes-ne0.true refl
    ]

pub returns-then-not-is_b : goal.returns-then-not-is_b
returns-then-not-is_b c = not_b c.args.nodes.now c.if-count-lt1.false c.size_at.ensures c.if-size_at-count.false c.if-nodes-ne0.false c.type_at.ensures c.is_b.ensures (ap not c.if-not-is_b.true) refl

pub returns : goal.returns
returns c = is_b_lem c.args.nodes.now c.if-count-lt1.false c.size_at.ensures c.if-size_at-count.false c.if-nodes-ne0.false c.type_at.ensures c.is_b.ensures (ap not c.if-not-is_b.false) refl
