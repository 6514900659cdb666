-- `emit_multi::emit_added_keys` meets its contract.
use lib.ListN.{length}
use Rattle.emit_multi.proofs.KeyLaws.{Emitting}
use Rattle.emit_multi.proofs.emit_added_keys.Given as goal
use Rattle.emit_multi.specs.Multis.{added_keys}

abbrev pub invariant-loop-place : goal.invariant-loop-place
invariant-loop-place l = Emitting (added_keys l.keys l.material) l.initial.out l.out l.initial.p l.p 0 (length l.keys) l.place-index
