-- For the proof: the machine's lists (crate `lists`) read off the four tables, and what a step says of them; what its parts write is in crate `writes`.
use Rattle.std.specs.Prelude.{Ok, Err, Bool, ◌≡◌, List, ℕ, ◌+◌, ◌-◌, ◌*◌, ◌/◌, ◌≤◌, ◌<◌, length, take, get_or}
use Rattle.tables.specs.Tables.{newest}
use Rattle.standard.specs.Machine.{Limits}
use Rattle.row.specs.Tokens.{lexemes_left}
use Rattle.row.specs.Request.{Request}
use Rattle.judge.specs.NodeTable.{node_at}
use Rattle.work_list.specs.Work.{entry_at, work_of}
use Rattle.lists.specs.Lists.{Lists, Next, goes, stops, perform, step_by}
use Rattle.writes.specs.declared.State.{State}
use Rattle.writes.specs.Written.{Step}

-- Lists

-- the lists that these tables hold, by how many of each are in use
unfoldable pub view_of : List ℕ → List ℕ → List ℕ → List ℕ → List ℕ → State → Lists
view_of script tokens nodes keys work s =
    record {
      work = work_of work s.work;
      left = lexemes_left script tokens s.left;
      nodes = newest (node_at nodes) s.nodes;
      keys = take s.keys keys;
    }

-- what a step answers
abbrev pub seen : List ℕ → List ℕ → List ℕ → List ℕ → List ℕ → Step → Next
seen script tokens nodes keys work (Ok s) = goes (view_of script tokens nodes keys work s)
seen script tokens nodes keys work (Err stop) = stops (record { number = stop.number; reason = stop.reason; before = stop.left })

-- how much the tables hold
abbrev pub room_of : List ℕ → List ℕ → List ℕ → Limits
room_of nodes keys work = record { nodes = length nodes / 9; keys = length keys; work = length work }

-- a request carried out on the lists that the tables hold
abbrev pub perform_on : List ℕ → List ℕ → List ℕ → List ℕ → List ℕ → State → Request → Next
perform_on script tokens nodes keys work s r =
    perform (room_of nodes keys work) (work_of work s.work) (lexemes_left script tokens s.left) (newest (node_at nodes) s.nodes) (take s.keys keys) r

-- what is in use lies in the tables, and one more can be counted
pub record Inside (nodes keys work : List ℕ) (s : State) : Type 0 where
  pub in_nodes : s.nodes ≤ length nodes / 9
  pub in_keys : s.keys ≤ length keys
  pub in_work : s.work ≤ length work
  pub few_nodes : s.nodes + 1 < 4294967296
  pub few_keys : s.keys < 2147483648

-- Steps

-- nothing but zeros from cell n on
abbrev pub Behind : List ℕ → ℕ → Type 0
Behind table n = (i : ℕ) → n ≤ i → get_or table i 0 ≡ 0

-- zeros stay behind what is in use, which lies in the table, and a refusal writes nothing to nodes and keys
abbrev pub Kept : List ℕ → List ℕ → List ℕ → List ℕ → State → Step → Type 0
Kept nodes nodes' keys keys' s (Ok t) = ((Behind nodes (9 * s.nodes) → Behind nodes' (9 * t.nodes)) × (Behind keys s.keys → Behind keys' t.keys)) × (t.keys ≤ length keys')
Kept nodes nodes' keys keys' s (Err stop) = (nodes' ≡ nodes) × (keys' ≡ keys)

-- a request was carried out, whatever the script's bytes are
pub record Performs (tokens nodes keys work nodes' keys' work' : List ℕ) (s : State) (request : Request) (r : Step) : Type 0 where
  pub answers : (script : List ℕ) → seen script tokens nodes' keys' work' r ≡ perform_on script tokens nodes keys work s request
  pub kept : Kept nodes nodes' keys keys' s r

-- one entry was taken off
pub record Steps (segwit : Bool) (script tokens nodes keys work nodes' keys' work' : List ℕ) (s : State) (r : Step) : Type 0 where
  pub answers : seen script tokens nodes' keys' work' r ≡ step_by segwit (room_of nodes keys work) (entry_at work (s.work - 1)) (work_of work (s.work - 1)) (lexemes_left script tokens s.left) (newest (node_at nodes) s.nodes) (take s.keys keys)
  pub kept : Kept nodes nodes' keys keys' s r
