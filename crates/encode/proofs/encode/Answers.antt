-- `encode::encode` meets its contract. The whole outcome, of EncodeLaws.
use Rattle.std.proofs.Common.{refl, ap, ◌∙◌}
use Rattle.tables.specs.Tables.{zeros}
use Rattle.encode.specs.Encode.{answer}
use Rattle.encode.specs.Decided.{refusal_answer}
use Rattle.encode.proofs.EncodeLaws.{answer_numbered, refused_with, decided_refusal, writable, decided_writing}
use Rattle.encode.proofs.encode.Goals as goal

pub returns-in-Err : goal.returns-in-Err
returns-in-Err c =
    decided_refusal c.args.kind c.args.nodes.now c.args.keys.now c.args.material.now c.args.work.now c.args.out.now (refusal_answer c.in-Err.refusal) c.in-Err.ensures (answer_numbered c.in-Err.refusal) c.answered.result _
    (c.answered.ensures ∙ refused_with c.in-Err.refusal c.number.ensures c.reason.ensures) c.clear_work.ensures

pub write_script-requires : goal.write_script-requires
write_script-requires c = writable c.args.kind c.args.nodes.now c.args.keys.now c.args.material.now c.args.work.now c.args.out.now (answer 0 0 c.in-Ok.bytes) c.in-Ok.ensures refl

pub returns : goal.returns
returns c =
    decided_writing c.args.kind c.args.nodes.now c.args.keys.now c.args.material.now c.args.work.now c.args.out.now (answer 0 0 c.in-Ok.bytes) c.in-Ok.ensures refl c.answered-2.result _ _ c.answered-2.ensures
    c.write_script.ensures.0 (c.clear_work-2.ensures ∙ ap zeros c.write_script.auto.work)
