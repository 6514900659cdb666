-- `leaf_part::leaf_part` meets its contract.
use Rattle.std.proofs.Common.{refl, ap, ◌∙◌}
use Rattle.leaf_part.proofs.PartLaws.{unknown_script, looked_up}
use Rattle.leaf_part.proofs.leaf_part.Goals as goal

pub returns-then-kind-gt1 : goal.returns-then-kind-gt1
returns-then-kind-gt1 c = unknown_script c.args.kind c.args.script.now c.args.node c.args.place c.if-kind-gt1.true

pub returns : goal.returns
returns c = ap (λ x. x.now) c.unwrap_or.ensures ∙ looked_up c.args.kind c.args.script.now c.args.node c.args.place c.leaf_bytes.result c.leaf_bytes.ensures c.if-kind-gt1.false c.get.result _ refl c.get.ensures.lookup.0
