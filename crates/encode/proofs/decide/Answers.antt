-- `encode::decide` meets its contract. The ways of EncodeLaws.
use Rattle.std.proofs.Common.{refl, sym, ap, subst, ◌∙◌, Err}
use Rattle.std.proofs.lemmas.Result.{err_from_is_err_and}
use Rattle.std.specs.Prelude.{Bool}
use Rattle.script_length.specs.Length.{length_in}
use Rattle.encoding.specs.Encoding as encoding
use Rattle.encoding.specs.Encoding.{tree_in}
use Rattle.closing.specs.Verdicts.{verdict, refusal_verdict, verdict_on}
use Rattle.closing.proofs.CheckLaws.{refusal_numbered}
use Rattle.encode.specs.Decided.{Answers, answer_told}
use Rattle.encode.proofs.EncodeLaws.{unknown_kind, refused_by_checks, refused_by_room, accepted, answer_numbered}
use Rattle.encode.proofs.decide.Goals as goal

pub returns-then-kind-gt1 : goal.returns-then-kind-gt1
returns-then-kind-gt1 c = unknown_kind c.args.kind c.args.source.nodes.now c.args.source.keys.now c.args.source.material.now c.args.work c.args.out c.if-kind-gt1.true

pub returns-in_err-check_tree : goal.returns-in_err-check_tree
returns-in_err-check_tree c =
    let p = err_from_is_err_and c.from_residual.result c.from_residual.ensures.1 in
    subst (Answers c.args.kind c.args.source.nodes.now c.args.source.keys.now c.args.source.material.now c.args.work c.args.out) (sym (ap answer_told (p.1 ∙ ap Err p.2)))
    (refused_by_checks c.args.kind c.args.source.nodes.now c.args.source.keys.now c.args.source.material.now c.args.work c.args.out c.if-kind-gt1.false (refusal_verdict c.in_err-check_tree.field-0.0) (c.in_err-check_tree.ensures ∙ ap (λ (b : Bool). verdict_on (tree_in b c.args.source.nodes.now c.args.source.keys.now c.args.source.material.now)) c.requires) (refusal_numbered c.in_err-check_tree.field-0.0))

pub returns-in_err-check_room : goal.returns-in_err-check_room
returns-in_err-check_room c =
    let p = err_from_is_err_and c.from_residual-in_err-check_room.result c.from_residual-in_err-check_room.ensures.1 in
    let e = c.in_err-check_room.ensures in
    subst (Answers c.args.kind c.args.source.nodes.now c.args.source.keys.now c.args.source.material.now c.args.work c.args.out) (sym (ap answer_told (p.1 ∙ ap Err p.2) ∙ e))
    (refused_by_room c.args.kind c.args.source.nodes.now c.args.source.keys.now c.args.source.material.now c.args.work c.args.out c.if-kind-gt1.false (verdict 0 0) (c.in_ok-check_tree.ensures ∙ ap (λ (b : Bool). verdict_on (tree_in b c.args.source.nodes.now c.args.source.keys.now c.args.source.material.now)) c.requires) refl c.script_length-bytes.result (c.script_length-bytes.ensures ∙ ap (λ (b : Bool). length_in b c.args.source.nodes.now) c.requires)
    (λ z. answer_numbered c.in_err-check_room.field-0.0 (ap (λ (a : encoding.Answer). a.number) e ∙ z)))

pub returns : goal.returns
returns c =
    accepted c.args.kind c.args.source.nodes.now c.args.source.keys.now c.args.source.material.now c.args.work c.args.out c.if-kind-gt1.false (verdict 0 0) (c.in_ok-check_tree.ensures ∙ ap (λ (b : Bool). verdict_on (tree_in b c.args.source.nodes.now c.args.source.keys.now c.args.source.material.now)) c.requires) refl c.script_length-bytes.result (c.script_length-bytes.ensures ∙ ap (λ (b : Bool). length_in b c.args.source.nodes.now) c.requires)
    (sym (ap (λ (a : encoding.Answer). a.number) c.in_ok-check_room.ensures))
