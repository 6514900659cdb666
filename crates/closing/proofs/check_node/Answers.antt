-- `closing::check_node` meets its contract. The ways of CheckLaws.
use Rattle.std.proofs.Common.{refl, sym, ap, ◌∙◌, Err}
use Rattle.std.specs.Prelude.{not}
use Rattle.std.proofs.lemmas.Result.{err_from_is_err_and}
use Rattle.judge.specs.NodeTable.{node_of}
use Rattle.node_shape.specs.Shapes.{shape_held, shape_told}
use Rattle.std.specs.Option.{ok_or}
use Rattle.closing.specs.declared.Refusal.TheVariants.{NotOneTree, Value}
use Rattle.closing.specs.Verdicts.{verdict_told}
use Rattle.closing.proofs.CheckLaws.{refusal_numbered, unknown_kind_told, ill_formed, keys_there, children_there, value_refused, value_allowed}
use Rattle.closing.proofs.check_node.Goals as goal

pub returns-in_err-s : goal.returns-in_err-s
returns-in_err-s c =
    let p = err_from_is_err_and c.from_residual.result c.from_residual.ensures.1 in
    unknown_kind_told c.args.source.segwit c.args.source.material.now c.args.source.keys.now c.args.source.nodes.now c.args.m (node_of c.node_at-n.result) c.node_at-n.ensures (sym (ap shape_told c.in_err-s.ensures.ok_part) ∙ c.shape_of.ensures)
    (ap verdict_told (p.1 ∙ ap Err p.2) ∙ ap verdict_told (c.in_err-s.ensures.value ∙ ap (λ o. ok_or o NotOneTree) c.in_err-s.ensures.ok_part))

pub returns-then-not-well_formed : goal.returns-then-not-well_formed
returns-then-not-well_formed c = ill_formed c.args.source.segwit c.args.source.material.now c.args.source.keys.now c.args.source.nodes.now c.args.m (node_of c.node_at-n.result) c.node_at-n.ensures (shape_held c.in_ok-s.s) (sym (ap shape_told c.in_ok-s.ensures.ok_part) ∙ c.shape_of.ensures) c.well_formed-2.ensures (ap not c.if-not-well_formed.true) refl

pub value_refusal-requires : goal.value_refusal-requires
value_refusal-requires c = keys_there c.args.source.segwit c.args.source.material.now c.args.source.keys.now c.args.source.nodes.now c.args.m (node_of c.node_at-n.result) c.node_at-n.ensures (shape_held c.in_ok-s.s) (sym (ap shape_told c.in_ok-s.ensures.ok_part) ∙ c.shape_of.ensures) c.well_formed-2.ensures (ap not c.if-not-well_formed.false)

pub returns-in_err-value_refusal : goal.returns-in_err-value_refusal
returns-in_err-value_refusal c =
    let p = err_from_is_err_and c.from_residual-in_err-value_refusal.result c.from_residual-in_err-value_refusal.ensures.1 in
    value_refused c.args.source.segwit c.args.source.material.now c.args.source.keys.now c.args.source.nodes.now c.args.m (node_of c.node_at-n.result) c.node_at-n.ensures (shape_held c.in_ok-s.s) (sym (ap shape_told c.in_ok-s.ensures.ok_part) ∙ c.shape_of.ensures) c.well_formed-2.ensures (ap not c.if-not-well_formed.false) c.in_err-value_refusal.ensures
    (refusal_numbered (Value c.in_err-value_refusal.field-0.0)) (ap verdict_told (p.1 ∙ ap Err p.2))

pub judged-requires-clause-children : goal.judged-requires-clause-children
judged-requires-clause-children c = children_there c.args.source.segwit c.args.source.material.now c.args.source.keys.now c.args.source.nodes.now c.args.m (node_of c.node_at-n.result) c.node_at-n.ensures (shape_held c.in_ok-s.s) (sym (ap shape_told c.in_ok-s.ensures.ok_part) ∙ c.shape_of.ensures) c.well_formed-2.ensures (ap not c.if-not-well_formed.false) c.requires.rooted

pub returns : goal.returns
returns c = value_allowed c.args.source.segwit c.args.source.material.now c.args.source.keys.now c.args.source.nodes.now c.args.m (node_of c.node_at-n.result) c.node_at-n.ensures (shape_held c.in_ok-s.s) (sym (ap shape_told c.in_ok-s.ensures.ok_part) ∙ c.shape_of.ensures) c.well_formed-2.ensures (ap not c.if-not-well_formed.false) c.in_ok-value_refusal.ensures refl c.judged.ensures
