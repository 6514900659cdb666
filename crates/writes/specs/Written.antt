-- For the proof: what the parts of a step answer and write, by how much the tables hold: 17 where entries don't fit, 15 where a node doesn't, 16 where keys don't, and 14 where no rule types a node. From document 01, "When the desk says no".
use Rattle.std.specs.Prelude.{Result, Ok, Err, Bool, true, false, ◌≡◌, List, [], ◌∷◌, ℕ, ◌+◌, ◌*◌, ◌/◌, eqb, leb, length}
use Rattle.tables.specs.Choose.{pick}
use Rattle.tables.specs.Tables.{put_at}
use Rattle.standard.specs.Table.{Node, cells}
use Rattle.row.specs.declared.NonTerm.TheVariants.{Verify}
use Rattle.row.specs.declared.Refused.{Refused}
use Rattle.judge.specs.Nodes.{Making, makes, refuses}
use Rattle.work_list.specs.Work.{packed}
use Rattle.writes.specs.declared.State.{State}
use Rattle.writes.specs.declared.Stop.{Stop}

abbrev pub counts : ℕ → ℕ → ℕ → ℕ → State
counts left work nodes keys = record { left = left; work = work; nodes = nodes; keys = keys }

-- what a step answers: how many there are of each then, or a refusal
abbrev pub Step : Type 0
Step = Result State Stop

-- a refusal is about the last token taken
abbrev pub stop_of : State → ℕ → ℕ → Stop
stop_of s number reason = record { number = number; reason = reason; left = s.left }

-- that of a row, which has no reason
abbrev pub stop_of_row : Refused → Stop
stop_of_row e = record { number = e.number; reason = 0; left = e.left }

abbrev pub stopped : State → ℕ → ℕ → Step
stopped s number reason = Err (stop_of s number reason)

-- entries with these numbers, on top of those in use: 17, and nothing is written, if they don't fit
abbrev pub enters_step : ℕ → State → ℕ → Step
enters_step room s more = pick (leb (s.work + more) room) (Ok (counts s.left (s.work + more) s.nodes s.keys)) (stopped s 17 0)

abbrev pub enters_work : List ℕ → State → List ℕ → List ℕ
enters_work work s numbers = pick (leb (s.work + length numbers) (length work)) (put_at work s.work numbers) work

pub record Enters (before now : List ℕ) (s : State) (numbers : List ℕ) (r : Step) : Type 0 where
  pub answers : r ≡ enters_step (length before) s (length numbers)
  pub table : now ≡ enters_work before s numbers

-- one node more: 15, and nothing is written, if it doesn't fit
abbrev pub stores_step : ℕ → State → Step
stores_step cells s = pick (leb (s.nodes + 1) (cells / 9)) (Ok (counts s.left s.work (s.nodes + 1) s.keys)) (stopped s 15 0)

abbrev pub stores_nodes : List ℕ → State → Node → List ℕ
stores_nodes nodes s x = pick (leb (s.nodes + 1) (length nodes / 9)) (put_at nodes (9 * s.nodes) (cells x)) nodes

pub record Stores (before now : List ℕ) (s : State) (x : Node) (r : Step) : Type 0 where
  pub answers : r ≡ stores_step (length before) s
  pub table : now ≡ stores_nodes before s x

-- a node that was judged, or 14
abbrev pub Finishes : List ℕ → List ℕ → State → Making → Step → Type 0
Finishes before now s (makes x) r = Stores before now s x r
Finishes before now s (refuses reason) r = (r ≡ stopped s 14 reason) × (now ≡ before)

-- a leaf under v:, and the entry that wraps it: 15, then 17, and nothing is written, if they don't fit
abbrev pub verified_step : ℕ → ℕ → State → Step
verified_step cells room s =
    pick (leb (s.nodes + 1) (cells / 9))
    (pick (leb (s.work + 1) room) (Ok (counts s.left (s.work + 1) (s.nodes + 1) s.keys)) (stopped s 17 0))
    (stopped s 15 0)

abbrev pub when_verified : List ℕ → List ℕ → State → List ℕ → List ℕ → List ℕ
when_verified nodes work s written kept = pick (leb (s.nodes + 1) (length nodes / 9)) (pick (leb (s.work + 1) (length work)) written kept) kept

pub record Verified (nodes nodes' work work' : List ℕ) (s : State) (x : Node) (numbers : List ℕ) (r : Step) : Type 0 where
  pub answers : r ≡ verified_step (length nodes) (length work) s
  pub nodes_are : nodes' ≡ when_verified nodes work s (put_at nodes (9 * s.nodes) (cells x)) nodes
  pub work_is : work' ≡ when_verified nodes work s (put_at work s.work numbers) work

-- a leaf, under v: or not
abbrev pub Leaves : List ℕ → List ℕ → List ℕ → List ℕ → State → Node → Bool → Step → Type 0
Leaves nodes nodes' work work' s x true r = Verified nodes nodes' work work' s x (packed Verify ∷ []) r
Leaves nodes nodes' work work' s x false r = Stores nodes nodes' s x r × (work' ≡ work)

-- a multi's node and keys: 16, then 15, and nothing is written, if they don't fit
abbrev pub keyed_step : ℕ → ℕ → State → ℕ → Step
keyed_step cells room s more =
    pick (leb (s.keys + more) room)
    (pick (leb (s.nodes + 1) (cells / 9)) (Ok (counts s.left s.work (s.nodes + 1) (s.keys + more))) (stopped s 15 0))
    (stopped s 16 0)

abbrev pub when_keyed : List ℕ → List ℕ → State → ℕ → List ℕ → List ℕ → List ℕ
when_keyed nodes keys s more written kept = pick (leb (s.keys + more) (length keys)) (pick (leb (s.nodes + 1) (length nodes / 9)) written kept) kept

pub record Keyed (nodes nodes' keys keys' : List ℕ) (s : State) (x : Node) (offsets : List ℕ) (r : Step) : Type 0 where
  pub answers : r ≡ keyed_step (length nodes) (length keys) s (length offsets)
  pub nodes_are : nodes' ≡ when_keyed nodes keys s (length offsets) (put_at nodes (9 * s.nodes) (cells x)) nodes
  pub keys_are : keys' ≡ when_keyed nodes keys s (length offsets) (put_at keys s.keys offsets) keys
