-- `closing::check_tree` meets its contract. The loop over the nodes, of TableLaws.
use Rattle.std.proofs.Common.{refl, ap, ◌∙◌, Err}
use Rattle.std.proofs.lemmas.Result.{err_from_is_err_and}
use Rattle.closing.specs.Verdicts.{verdict_told}
use Rattle.closing.proofs.CheckLaws.{refusal_numbered}
use Rattle.closing.proofs.TableLaws.{begun, rooted, node_refused, again, ended}
use Rattle.closing.proofs.check_tree.Goals as goal

pub loop-i-init : goal.loop-i-init
loop-i-init c = begun c.args.source.segwit c.args.source.nodes.now c.args.source.keys.now c.args.source.material.now

pub check_node-requires-clause-rooted : goal.check_node-requires-clause-rooted
check_node-requires-clause-rooted c = rooted c.args.source.segwit c.args.source.nodes.now c.args.source.keys.now c.args.source.material.now c.loop-i.invariant

pub returns-in_err-check_node : goal.returns-in_err-check_node
returns-in_err-check_node c = let p = err_from_is_err_and c.from_residual.result c.from_residual.ensures.1 in ap verdict_told (p.1 ∙ ap Err p.2) ∙ node_refused c.args.source.segwit c.args.source.nodes.now c.args.source.keys.now c.args.source.material.now c.loop-i.invariant c.loop-i-test.true c.in_err-check_node.ensures (refusal_numbered c.in_err-check_node.field-0.0)

pub loop-i-preserved : goal.loop-i-preserved
loop-i-preserved c = again c.args.source.segwit c.args.source.nodes.now c.args.source.keys.now c.args.source.material.now c.loop-i.invariant c.loop-i-test.true c.in_ok-check_node.ensures refl

pub returns : goal.returns
returns c = ended c.args.source.segwit c.args.source.nodes.now c.args.source.keys.now c.args.source.material.now c.loop-i.invariant c.loop-i-test.false c.check_root.ensures
