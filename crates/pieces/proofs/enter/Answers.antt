-- `pieces::enter` meets its contract.
use Rattle.std.proofs.Common.{arith, ap, ◌+◌}
use Rattle.pieces.proofs.EntryLaws.{tag_turned}
use Rattle.pieces.proofs.enter.Goals as goal

pub loop-i-preserved : goal.loop-i-preserved
loop-i-preserved c = let s = c.in-Some.ensures.steps in tag_turned c.loop-i.invariant _ _ s.0 c.entry.result _ _ c.entry.ensures (ap (λ k. c.args.w + k) s.1) (omega (arith, s.2))
