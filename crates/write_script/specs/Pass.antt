-- For the proof: what holds of the writing pass after each step: the pieces and the nodes still to be taken come to the rest of the script.
use Rattle.std.specs.Prelude.{◌≡◌, Bool, List, ℕ, ◌+◌, ◌*◌, ◌≤◌, ◌<◌, length}
use Rattle.tables.specs.Tables.{newest}
use Rattle.standard.specs.Tree.{Trees, many, sizes}
use Rattle.standard.specs.Table.{node_at}
use Rattle.encoding.specs.Encoding.{node_count}
use Rattle.encoding.proofs.Stands.{Stands}
use Rattle.emit.specs.declared.Pen.{Pen}
use Rattle.emit.proofs.PenLaws.{Wrote}
use Rattle.pieces.specs.Pieces.{pieces_in}
use Rattle.emit_multi.specs.Multis.{AllWhole}
use Rattle.write_script.specs.declared.State.{State}
use Rattle.write_script.specs.Text.{text, subtrees, to_write}

-- how far the pass has come, by its pen
abbrev pub state : ℕ → ℕ → Pen → State
state work left p = record { work = work; left = left; pen = p }

-- the pieces and the nodes still to be taken come to the rest of the script
pub record GoingOn (segwit : Bool) (nodes keys material before all work out : List ℕ) (s : State) : Type 0 where
  -- the trees whose nodes are still to be taken
  pub trees : Trees
  pub stands : Stands segwit material keys (newest (node_at nodes) s.left) trees
  pub asked : subtrees (pieces_in material work s.work) ≡ many trees
  pub wrote : Wrote before all out s.pen (text (pieces_in material work s.work) trees)
  pub whole : AllWhole (text (pieces_in material work s.work) trees)
  pub room : s.work + 8 * sizes trees + 1 ≤ 8 * node_count nodes + 2 * many trees
  pub enough : 8 * node_count nodes + 2 ≤ length work
  pub inside : s.left ≤ node_count nodes

-- a step is to be taken
pub record Going (segwit : Bool) (nodes keys material work out : List ℕ) (s : State) : Type 0 where
  pub before : List ℕ
  pub all : List ℕ
  pub going_on : GoingOn segwit nodes keys material before all work out s
  pub some_work : 1 ≤ s.work

-- a step keeps what holds, and brings the end nearer
abbrev pub Keeps : Bool → List ℕ → List ℕ → List ℕ → List ℕ → List ℕ → State → List ℕ → List ℕ → State → Type 0
Keeps segwit nodes keys material work out s work' out' r =
    (before all : List ℕ) → GoingOn segwit nodes keys material before all work out s
    → GoingOn segwit nodes keys material before all work' out' r × (to_write (pieces_in material work' r.work) r.left < to_write (pieces_in material work s.work) s.left)
