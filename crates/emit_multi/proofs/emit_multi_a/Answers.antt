-- `emit_multi::emit_multi_a` meets its contract.
use Prim.Native.Nat.{◌+◌}
use Rattle.emit_multi.proofs.KeyLaws.{added_part_ready, added_part_emits, short_key_ready, push_emits, two_emitted, second_ready, room_of, ready_at, middle_ready, last_ready, emits_then}
use Rattle.emit_multi.proofs.emit_multi_a.Goals as goal
use Rattle.emit_multi.specs.Multis.{added_keys}
use Rattle.lex.specs.Token.{push, op, num, data_at, BYTES32, CHECKSIG, NUMEQUAL}
use lib.ListN.{get_or}
use mathlib.Core.List.{[], ◌∷◌, ◌++◌}
use mathlib.Core.Path.{◌∙◌, refl, sym}

pub emit_push-a-requires : goal.emit_push-a-requires
emit_push-a-requires c = short_key_ready c.args.material.now (get_or c.args.keys.now c.args.first 0) (get_or c.args.keys.now c.args.first 0) refl (op CHECKSIG ∷ ((added_keys c.args.keys.now c.args.material.now c.args.further (c.args.first + 1)) ++ (num c.args.k ∷ op NUMEQUAL ∷ []))) c.requires.1

pub emit_added_keys-c-requires : goal.emit_added_keys-c-requires
emit_added_keys-c-requires c = added_part_ready c.args.keys.now c.args.material.now (c.args.first + 1) c.args.further (middle_ready ((push BYTES32 (data_at c.args.material.now (get_or c.args.keys.now c.args.first 0) 32)) ∷ op CHECKSIG ∷ []) (added_keys c.args.keys.now c.args.material.now c.args.further (c.args.first + 1)) (num c.args.k) (op NUMEQUAL) c.requires.1 (two_emitted c.args.out.now c.args.pen (push BYTES32 (data_at c.args.material.now (get_or c.args.keys.now c.args.first 0) 32)) (op CHECKSIG) c.emit_push-a.new.out c.emit_push-a.result c.emit_op-b.new.out c.emit_op-b.result (push_emits c.args.out.now c.args.pen c.args.material.now BYTES32 32 (get_or c.args.keys.now c.args.first 0) (get_or c.args.keys.now c.args.first 0) c.emit_push-a.new.out c.emit_push-a.result refl c.emit_push-a.ensures) c.emit_op-b.ensures).1 (sym (c.emit_op-b.auto.out ∙ c.emit_push-a.auto.out)))

pub emit_number-d-requires : goal.emit_number-d-requires
emit_number-d-requires c = room_of (last_ready ((push BYTES32 (data_at c.args.material.now (get_or c.args.keys.now c.args.first 0) 32)) ∷ op CHECKSIG ∷ []) (added_keys c.args.keys.now c.args.material.now c.args.further (c.args.first + 1)) (num c.args.k) (op NUMEQUAL) c.requires.1 (two_emitted c.args.out.now c.args.pen (push BYTES32 (data_at c.args.material.now (get_or c.args.keys.now c.args.first 0) 32)) (op CHECKSIG) c.emit_push-a.new.out c.emit_push-a.result c.emit_op-b.new.out c.emit_op-b.result (push_emits c.args.out.now c.args.pen c.args.material.now BYTES32 32 (get_or c.args.keys.now c.args.first 0) (get_or c.args.keys.now c.args.first 0) c.emit_push-a.new.out c.emit_push-a.result refl c.emit_push-a.ensures) c.emit_op-b.ensures).1 (added_part_emits c.args.keys.now c.args.material.now (c.args.first + 1) c.args.further _ _ _ _ c.emit_added_keys-c.ensures).1 (sym (c.emit_added_keys-c.auto.out ∙ c.emit_op-b.auto.out ∙ c.emit_push-a.auto.out)))

pub emit_op-requires : goal.emit_op-requires
emit_op-requires c = room_of (ready_at _ c.emit_number-d.ensures.1 refl (second_ready (last_ready ((push BYTES32 (data_at c.args.material.now (get_or c.args.keys.now c.args.first 0) 32)) ∷ op CHECKSIG ∷ []) (added_keys c.args.keys.now c.args.material.now c.args.further (c.args.first + 1)) (num c.args.k) (op NUMEQUAL) c.requires.1 (two_emitted c.args.out.now c.args.pen (push BYTES32 (data_at c.args.material.now (get_or c.args.keys.now c.args.first 0) 32)) (op CHECKSIG) c.emit_push-a.new.out c.emit_push-a.result c.emit_op-b.new.out c.emit_op-b.result (push_emits c.args.out.now c.args.pen c.args.material.now BYTES32 32 (get_or c.args.keys.now c.args.first 0) (get_or c.args.keys.now c.args.first 0) c.emit_push-a.new.out c.emit_push-a.result refl c.emit_push-a.ensures) c.emit_op-b.ensures).1 (added_part_emits c.args.keys.now c.args.material.now (c.args.first + 1) c.args.further _ _ _ _ c.emit_added_keys-c.ensures).1 (sym (c.emit_number-d.auto.out ∙ c.emit_added_keys-c.auto.out ∙ c.emit_op-b.auto.out ∙ c.emit_push-a.auto.out)))))

pub returns : goal.returns
returns c = emits_then c.args.out.now c.args.pen ((push BYTES32 (data_at c.args.material.now (get_or c.args.keys.now c.args.first 0) 32)) ∷ op CHECKSIG ∷ []) ((added_keys c.args.keys.now c.args.material.now c.args.further (c.args.first + 1)) ++ (num c.args.k ∷ op NUMEQUAL ∷ [])) c.emit_op-b.new.out c.emit_op-b.result c.emit_op.new.out c.emit_op.result (two_emitted c.args.out.now c.args.pen (push BYTES32 (data_at c.args.material.now (get_or c.args.keys.now c.args.first 0) 32)) (op CHECKSIG) c.emit_push-a.new.out c.emit_push-a.result c.emit_op-b.new.out c.emit_op-b.result (push_emits c.args.out.now c.args.pen c.args.material.now BYTES32 32 (get_or c.args.keys.now c.args.first 0) (get_or c.args.keys.now c.args.first 0) c.emit_push-a.new.out c.emit_push-a.result refl c.emit_push-a.ensures) c.emit_op-b.ensures) (emits_then c.emit_op-b.new.out c.emit_op-b.result (added_keys c.args.keys.now c.args.material.now c.args.further (c.args.first + 1)) (num c.args.k ∷ op NUMEQUAL ∷ []) c.emit_added_keys-c.new.out c.emit_added_keys-c.result c.emit_op.new.out c.emit_op.result (added_part_emits c.args.keys.now c.args.material.now (c.args.first + 1) c.args.further _ _ _ _ c.emit_added_keys-c.ensures) (two_emitted c.emit_added_keys-c.new.out c.emit_added_keys-c.result (num c.args.k) (op NUMEQUAL) c.emit_number-d.new.out c.emit_number-d.result c.emit_op.new.out c.emit_op.result c.emit_number-d.ensures c.emit_op.ensures))
