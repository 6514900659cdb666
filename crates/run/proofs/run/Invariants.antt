-- `run::run` meets its contract.
use Rattle.perform.specs.View.{room_of}
use Rattle.row.specs.Tokens.{lexemes_left}
use Rattle.run.proofs.RunLaws.{Running}
use Rattle.run.proofs.run.Given as goal
use Rattle.standard.proofs.Bound.{to_step}
use Rattle.work_list.specs.Work.{work_of}
use lib.ListN.{length}
use mathlib.Core.Path.{◌≡◌}

abbrev pub invariant-loop-s : goal.invariant-loop-s
invariant-loop-s l =
    Running l.segwit l.script l.tokens l.count (room_of l.initial.nodes l.initial.keys l.initial.work) l.nodes l.keys l.work l.s l.steps × ((length l.nodes ≡ length l.initial.nodes) × ((length l.keys ≡ length l.initial.keys) × (length l.work ≡ length l.initial.work)))

abbrev pub decreases-loop-s : goal.decreases-loop-s
decreases-loop-s l =
    to_step (work_of l.work l.s.work) (lexemes_left l.script l.tokens l.s.left)
