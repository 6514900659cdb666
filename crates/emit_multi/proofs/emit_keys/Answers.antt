-- `emit_multi::emit_keys` meets its contract.
use Prim.Native.Nat.{◌+◌}
use Rattle.emit_multi.proofs.KeyLaws.{at_0, keys_ready, keys_turned, key_turn, key_ready, push_emits}
use Rattle.emit_multi.proofs.emit_keys.Goals as goal
use Rattle.emit_multi.specs.Multis.{multi_keys}
use Rattle.lex.specs.Token.{push, data_at, BYTES33}
use lib.ListN.{get_or, length}
use native.Mathlib.Omega.{arith}
use mathlib.Core.List.{[], ◌∷◌}

pub emit_push-p-requires : goal.emit_push-p-requires
emit_push-p-requires c = key_ready c.args.material.now (get_or c.args.keys.now c.loop-place.place-index 0) (get_or c.args.keys.now (0 + c.loop-place.place-index) 0) (at_0 c.args.keys.now c.loop-place.place-index) [] (keys_ready (multi_keys c.args.keys.now c.args.material.now) c.args.out.now c.args.pen 0 (length c.args.keys.now) c.loop-place.out c.loop-place.p c.loop-place.place-index c.loop-place.invariant (push BYTES33 (data_at c.args.material.now (get_or c.args.keys.now (0 + c.loop-place.place-index) 0) 33) ∷ []) (key_turn c.args.keys.now c.args.material.now 0 (length c.args.keys.now) c.loop-place.place-index c.loop-place-test.true (omega arith)))

pub loop-place-preserved : goal.loop-place-preserved
loop-place-preserved c = keys_turned (multi_keys c.args.keys.now c.args.material.now) c.args.out.now c.args.pen 0 (length c.args.keys.now) c.loop-place.out c.loop-place.p c.loop-place.place-index c.loop-place.invariant (push BYTES33 (data_at c.args.material.now (get_or c.args.keys.now (0 + c.loop-place.place-index) 0) 33) ∷ []) (key_turn c.args.keys.now c.args.material.now 0 (length c.args.keys.now) c.loop-place.place-index c.loop-place-test.true (omega arith)) c.loop-place-test.true c.emit_push-p.new.out c.emit_push-p.result (push_emits c.loop-place.out c.loop-place.p c.args.material.now BYTES33 33 (get_or c.args.keys.now c.loop-place.place-index 0) (get_or c.args.keys.now (0 + c.loop-place.place-index) 0) c.emit_push-p.new.out c.emit_push-p.result (at_0 c.args.keys.now c.loop-place.place-index) c.emit_push-p.ensures).0 (push_emits c.loop-place.out c.loop-place.p c.args.material.now BYTES33 33 (get_or c.args.keys.now c.loop-place.place-index 0) (get_or c.args.keys.now (0 + c.loop-place.place-index) 0) c.emit_push-p.new.out c.emit_push-p.result (at_0 c.args.keys.now c.loop-place.place-index) c.emit_push-p.ensures).1 c.emit_push-p.auto.out
