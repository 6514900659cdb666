-- `emit_multi::emit_added_keys` meets its contract.
use Prim.Native.Nat.{◌+◌}
use Rattle.emit_multi.proofs.KeyLaws.{at_0, keys_ready, keys_turned, added_turn, short_key_ready, push_emits, two_emitted, second_ready, room_of, ready_at}
use Rattle.emit_multi.proofs.emit_added_keys.Goals as goal
use Rattle.emit_multi.specs.Multis.{added_keys}
use Rattle.lex.specs.Token.{push, op, data_at, BYTES32, CHECKSIGADD}
use lib.ListN.{get_or, length}
use native.Mathlib.Omega.{arith}
use mathlib.Core.List.{[], ◌∷◌}
use mathlib.Core.Path.{sym}
use mathlib.Core.Path.{◌∙◌}

pub emit_push-pushed-requires : goal.emit_push-pushed-requires
emit_push-pushed-requires c = short_key_ready c.args.material.now (get_or c.args.keys.now c.loop-place.place-index 0) (get_or c.args.keys.now (0 + c.loop-place.place-index) 0) (at_0 c.args.keys.now c.loop-place.place-index) (op CHECKSIGADD ∷ []) (keys_ready (added_keys c.args.keys.now c.args.material.now) c.args.out.now c.args.pen 0 (length c.args.keys.now) c.loop-place.out c.loop-place.p c.loop-place.place-index c.loop-place.invariant (push BYTES32 (data_at c.args.material.now (get_or c.args.keys.now (0 + c.loop-place.place-index) 0) 32) ∷ op CHECKSIGADD ∷ []) (added_turn c.args.keys.now c.args.material.now 0 (length c.args.keys.now) c.loop-place.place-index c.loop-place-test.true (omega arith)))

pub emit_op-p-requires : goal.emit_op-p-requires
emit_op-p-requires c = room_of (ready_at _ (push_emits c.loop-place.out c.loop-place.p c.args.material.now BYTES32 32 (get_or c.args.keys.now c.loop-place.place-index 0) (get_or c.args.keys.now (0 + c.loop-place.place-index) 0) c.emit_push-pushed.new.out c.emit_push-pushed.result (at_0 c.args.keys.now c.loop-place.place-index) c.emit_push-pushed.ensures).1 (sym c.emit_push-pushed.auto.out) (second_ready (keys_ready (added_keys c.args.keys.now c.args.material.now) c.args.out.now c.args.pen 0 (length c.args.keys.now) c.loop-place.out c.loop-place.p c.loop-place.place-index c.loop-place.invariant (push BYTES32 (data_at c.args.material.now (get_or c.args.keys.now (0 + c.loop-place.place-index) 0) 32) ∷ op CHECKSIGADD ∷ []) (added_turn c.args.keys.now c.args.material.now 0 (length c.args.keys.now) c.loop-place.place-index c.loop-place-test.true (omega arith)))))

pub loop-place-preserved : goal.loop-place-preserved
loop-place-preserved c = keys_turned (added_keys c.args.keys.now c.args.material.now) c.args.out.now c.args.pen 0 (length c.args.keys.now) c.loop-place.out c.loop-place.p c.loop-place.place-index c.loop-place.invariant (push BYTES32 (data_at c.args.material.now (get_or c.args.keys.now (0 + c.loop-place.place-index) 0) 32) ∷ op CHECKSIGADD ∷ []) (added_turn c.args.keys.now c.args.material.now 0 (length c.args.keys.now) c.loop-place.place-index c.loop-place-test.true (omega arith)) c.loop-place-test.true c.emit_op-p.new.out c.emit_op-p.result (two_emitted c.loop-place.out c.loop-place.p (push BYTES32 (data_at c.args.material.now (get_or c.args.keys.now (0 + c.loop-place.place-index) 0) 32)) (op CHECKSIGADD) c.emit_push-pushed.new.out c.emit_push-pushed.result c.emit_op-p.new.out c.emit_op-p.result (push_emits c.loop-place.out c.loop-place.p c.args.material.now BYTES32 32 (get_or c.args.keys.now c.loop-place.place-index 0) (get_or c.args.keys.now (0 + c.loop-place.place-index) 0) c.emit_push-pushed.new.out c.emit_push-pushed.result (at_0 c.args.keys.now c.loop-place.place-index) c.emit_push-pushed.ensures) c.emit_op-p.ensures).0 (two_emitted c.loop-place.out c.loop-place.p (push BYTES32 (data_at c.args.material.now (get_or c.args.keys.now (0 + c.loop-place.place-index) 0) 32)) (op CHECKSIGADD) c.emit_push-pushed.new.out c.emit_push-pushed.result c.emit_op-p.new.out c.emit_op-p.result (push_emits c.loop-place.out c.loop-place.p c.args.material.now BYTES32 32 (get_or c.args.keys.now c.loop-place.place-index 0) (get_or c.args.keys.now (0 + c.loop-place.place-index) 0) c.emit_push-pushed.new.out c.emit_push-pushed.result (at_0 c.args.keys.now c.loop-place.place-index) c.emit_push-pushed.ensures) c.emit_op-p.ensures).1 (c.emit_op-p.auto.out ∙ c.emit_push-pushed.auto.out)
