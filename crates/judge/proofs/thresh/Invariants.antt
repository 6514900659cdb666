-- `judge::thresh` meets its contract. The loop of ThresholdLaws.
use Rattle.judge.proofs.ThresholdLaws.{Threshing}
use Rattle.judge.proofs.thresh.Given as goal

abbrev pub invariant-loop-i : goal.invariant-loop-i
invariant-loop-i l = Threshing l.nodes l.m l.k l.n l.earlier l.at l.size l.i
