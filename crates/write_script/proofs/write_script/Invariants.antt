-- `write_script::write_script` meets its contract.
use Rattle.encoding.specs.Encoding.{tree_in}
use Rattle.pieces.specs.Pieces.{pieces_in}
use Rattle.write_script.proofs.write_script.Given as goal
use Rattle.write_script.specs.Pass.{GoingOn}
use Rattle.write_script.specs.Text.{to_write}
use Rattle.write_script.specs.Writing.{bytes_of}
use lib.ListN.{length}
use mathlib.Core.Path.{◌≡◌}

abbrev pub invariant-loop-s : goal.invariant-loop-s
invariant-loop-s l = (GoingOn l.source.segwit l.source.nodes.now l.source.keys.now l.source.material.now l.initial.out (bytes_of (tree_in l.source.segwit l.source.nodes.now l.source.keys.now l.source.material.now)) l.work l.out l.s) × (length l.work ≡ length l.initial.work) × (length l.out ≡ length l.initial.out)

abbrev pub decreases-loop-s : goal.decreases-loop-s
decreases-loop-s l = to_write (pieces_in l.source.material.now l.work l.s.work) l.s.left
