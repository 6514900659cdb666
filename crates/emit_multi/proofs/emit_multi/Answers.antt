-- `emit_multi::emit_multi` meets its contract.
use Rattle.emit_multi.proofs.KeyLaws.{keys_part_ready, keys_part_emits, two_emitted, second_ready, room_of, ready_at, middle_ready, last_ready, number_as, number_emits, emits_then}
use Rattle.emit_multi.proofs.emit_multi.Goals as goal
use Rattle.emit_multi.specs.Multis.{multi_keys}
use Rattle.lex.specs.Token.{op, num, CHECKMULTISIG}
use mathlib.Core.List.{[], ◌∷◌, ◌++◌}
use mathlib.Core.Path.{◌∙◌, refl, sym}

pub emit_keys-b-requires : goal.emit_keys-b-requires
emit_keys-b-requires c = keys_part_ready c.args.keys.now c.args.material.now c.args.first c.args.count (middle_ready (num c.args.k ∷ []) (multi_keys c.args.keys.now c.args.material.now c.args.count c.args.first) (num c.args.count) (op CHECKMULTISIG) c.requires.2 c.emit_number-a.ensures.1 (sym c.emit_number-a.auto.out))

pub emit_number-c-requires : goal.emit_number-c-requires
emit_number-c-requires c = number_as c.args.count c.args.count refl (room_of (last_ready (num c.args.k ∷ []) (multi_keys c.args.keys.now c.args.material.now c.args.count c.args.first) (num c.args.count) (op CHECKMULTISIG) c.requires.2 c.emit_number-a.ensures.1 (keys_part_emits c.args.keys.now c.args.material.now c.args.first c.args.count _ _ _ _ c.emit_keys-b.ensures).1 (sym (c.emit_keys-b.auto.out ∙ c.emit_number-a.auto.out))))

pub emit_op-requires : goal.emit_op-requires
emit_op-requires c = room_of (ready_at _ (number_emits c.emit_keys-b.new.out c.emit_keys-b.result c.args.count c.args.count c.emit_number-c.new.out c.emit_number-c.result refl c.emit_number-c.ensures).1 refl (second_ready (last_ready (num c.args.k ∷ []) (multi_keys c.args.keys.now c.args.material.now c.args.count c.args.first) (num c.args.count) (op CHECKMULTISIG) c.requires.2 c.emit_number-a.ensures.1 (keys_part_emits c.args.keys.now c.args.material.now c.args.first c.args.count _ _ _ _ c.emit_keys-b.ensures).1 (sym (c.emit_number-c.auto.out ∙ c.emit_keys-b.auto.out ∙ c.emit_number-a.auto.out)))))

pub returns : goal.returns
returns c = emits_then c.args.out.now c.args.pen (num c.args.k ∷ []) ((multi_keys c.args.keys.now c.args.material.now c.args.count c.args.first) ++ (num c.args.count ∷ op CHECKMULTISIG ∷ [])) c.emit_number-a.new.out c.emit_number-a.result c.emit_op.new.out c.emit_op.result c.emit_number-a.ensures (emits_then c.emit_number-a.new.out c.emit_number-a.result (multi_keys c.args.keys.now c.args.material.now c.args.count c.args.first) (num c.args.count ∷ op CHECKMULTISIG ∷ []) c.emit_keys-b.new.out c.emit_keys-b.result c.emit_op.new.out c.emit_op.result (keys_part_emits c.args.keys.now c.args.material.now c.args.first c.args.count _ _ _ _ c.emit_keys-b.ensures) (two_emitted c.emit_keys-b.new.out c.emit_keys-b.result (num c.args.count) (op CHECKMULTISIG) c.emit_number-c.new.out c.emit_number-c.result c.emit_op.new.out c.emit_op.result (number_emits c.emit_keys-b.new.out c.emit_keys-b.result c.args.count c.args.count c.emit_number-c.new.out c.emit_number-c.result refl c.emit_number-c.ensures) c.emit_op.ensures))
