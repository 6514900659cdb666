-- `closing::thresh_type` meets its contract. The loop over a thresh's children, of WayLaws.
use Rattle.closing.proofs.WayLaws.{Threshing}
use Rattle.closing.proofs.thresh_type.Given as goal

abbrev pub invariant-loop-i : goal.invariant-loop-i
invariant-loop-i l = Threshing l.nodes l.m l.n l.earlier l.at l.i
