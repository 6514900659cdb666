-- `closing::thresh_type` meets its contract. The loop over a thresh's children, of WayLaws.
use Rattle.std.proofs.Common.{sym, ap, ◌∙◌, Err}
use Rattle.std.proofs.lemmas.Result.{err_from_is_err_and}
use Rattle.closing.proofs.WayLaws.{threshing, child_refused, threshing_again, thresh_typed}
use Rattle.closing.proofs.thresh_type.Goals as goal

pub loop-i-init : goal.loop-i-init
loop-i-init c = threshing c.args.nodes.now c.args.m c.args.n c.requires.subtrees c.no_children-earlier.ensures

pub returns-in_err-earlier : goal.returns-in_err-earlier
returns-in_err-earlier c =
    let p = err_from_is_err_and c.from_residual.result c.from_residual.ensures.1 in
    p.1 ∙ ap Err p.2 ∙ sym c.in_err-earlier.was ∙ child_refused c.args.nodes.now c.args.m c.args.n c.loop-i.invariant c.loop-i-test.true c.type_at.ensures c.threshold_child.ensures c.in_err-earlier.was

pub loop-i-preserved : goal.loop-i-preserved
loop-i-preserved c = threshing_again c.args.nodes.now c.args.m c.args.n c.loop-i.invariant c.loop-i-test.true c.type_at.ensures c.threshold_child.ensures c.in_ok-earlier.was c.size_at.ensures

pub returns : goal.returns
returns c = thresh_typed c.args.nodes.now c.args.m c.args.n c.loop-i.invariant c.loop-i-test.false
