-- `pieces::emit_piece` meets its contract.
use Rattle.pieces.proofs.WriteLaws.{push_ready}
use Rattle.pieces.proofs.emit_piece.Goals as goal
use lib.ListN.{length}
use mathlib.Core.Path.{refl}
use native.Mathlib.Omega.{arith}

pub emit_push-requires : goal.emit_push-requires
emit_push-requires c = push_ready c.args.material.now c.args.out.now c.args.pen c.args.piece (omega arith) (λ e. omega arith) _ c.data_length.result refl c.data_length.ensures (omega arith) (length c.args.out.now) c.requires.0 c.requires.1
