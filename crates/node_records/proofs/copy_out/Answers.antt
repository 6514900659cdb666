-- `node_records::copy_out` meets its contract: a turn writes one record over, and at the end none is left.
use Rattle.std.proofs.Common.{arith, ◌∙◌, ◌+◌, ap, sym, length-set, set}
use Rattle.judge.specs.declared.Node.{Node}
use Rattle.node_records.proofs.Copied.{over, over_next, over_end, over_all}
use Rattle.node_records.proofs.copy_out.Goals as goal

pub loop-i-preserved : goal.loop-i-preserved
loop-i-preserved c = record {
  same = length-set c.loop-i.records c.loop-i.i c.record_at.result ∙ c.loop-i.invariant.same;
  left =
      ap (λ (r : Node). over c.args.flat.now c.args.n 0 (c.loop-i.i + 1) (set c.loop-i.records c.loop-i.i r)) c.record_at.ensures
      ∙ over_next c.args.flat.now c.args.n c.loop-i.i c.loop-i.records (omega arith)
      ∙ c.loop-i.invariant.left;
}

pub returns : goal.returns
returns c =
    sym (over_end c.args.flat.now c.args.n 0 c.loop-i.i c.loop-i.records (omega arith))
    ∙ c.loop-i.invariant.left
    ∙ over_all c.args.flat.now c.args.n c.args.records.now c.requires.1
