-- For the proof: what a run of the rows leaves in the node table and the key table, by the verdict of the machine on trees (crate `standard`, Machine).
use Rattle.std.specs.Prelude.{Result, Ok, Err, ◌≡◌, Bool, List, ℕ, ◌+◌, ◌-◌, ◌*◌, ◌≤◌, eqb, leb, length, get_or}
use Rattle.tables.specs.Choose.{pick}
use Rattle.standard.specs.Tree.{Tree, nil, ◌⊳◌}
use Rattle.standard.specs.Table.{node_table, key_table}
use Rattle.standard.specs.Machine.{Refusal, Verdict, accepted, refused, Run}
use Rattle.node_store.specs.Stored.{nodes_in, keys_in}
use Rattle.writes.specs.declared.State.{State}
use Rattle.perform.specs.View.{Behind}
use Rattle.writes.specs.declared.Stop.{Stop}
use Rattle.run.specs.declared.Ran.{Ran}
use Rattle.run.specs.declared.Halted.{Halted}

-- how far a run came
abbrev pub ran_of : State → ℕ → Ran
ran_of s steps = record { steps = steps; nodes = s.nodes; keys = s.keys }

-- ended by a refusal
abbrev pub halted : {A : Type 0} → Stop → State → ℕ → Result A Halted
halted stop s steps = Err (record { stop = stop; ran = ran_of s steps })

-- one that has no reason
abbrev pub halts : ℕ → ℕ → State → ℕ → Result Ran Halted
halts number left s steps = halted (record { number = number; reason = 0; left = left }) s steps

-- what the code answers once the work list is empty: 18, 19 by the newest node's base, or the tree
abbrev pub closes_with : List ℕ → State → ℕ → Result Ran Halted
closes_with nodes s steps =
    pick (leb 1 s.left) (halts 18 (s.left - 1) s steps)
    (pick (eqb (get_or nodes (9 * (s.nodes - 1) + 5) 0) 1) (Ok (ran_of s steps))
    (halts 19 0 s steps))

-- the tree's nodes and keys at the front, zeros behind
pub record Accepts (segwit : Bool) (t : Tree) (steps : ℕ) (nodes keys : List ℕ) (ran : Ran) : Type 0 where
  pub answers : ran ≡ record { steps = steps; nodes = length (node_table segwit (t ⊳ nil)); keys = length (key_table (t ⊳ nil)) }
  pub nodes_are : nodes ≡ nodes_in (length nodes) (node_table segwit (t ⊳ nil))
  pub keys_are : keys ≡ keys_in (length keys) (key_table (t ⊳ nil))

-- what was written so far at the front, zeros behind
pub record Refuses (r : Refusal) (steps : ℕ) (nodes keys : List ℕ) (halted : Halted) : Type 0 where
  pub number_is : halted.stop.number ≡ r.number
  pub reason_is : halted.stop.reason ≡ r.reason
  pub left_is : halted.stop.left ≡ r.before
  pub steps_are : halted.ran.steps ≡ steps
  pub some : 1 ≤ r.number
  pub the_nodes_in : 9 * halted.ran.nodes ≤ length nodes
  pub keys_in : halted.ran.keys ≤ length keys
  pub nodes_behind : Behind nodes (9 * halted.ran.nodes)
  pub keys_behind : Behind keys halted.ran.keys

-- a tree where the machine has a tree, a refusal where it has one
abbrev pub Ends : Bool → Verdict → ℕ → List ℕ → List ℕ → Result Ran Halted → Type 0
Ends segwit (accepted t) steps nodes keys (Ok ran) = Accepts segwit t steps nodes keys ran
Ends segwit (accepted t) steps nodes keys (Err halted) = ⊥
Ends segwit (refused r) steps nodes keys (Ok ran) = ⊥
Ends segwit (refused r) steps nodes keys (Err halted) = Refuses r steps nodes keys halted

abbrev pub Runs : Bool → Run → List ℕ → List ℕ → Result Ran Halted → Type 0
Runs segwit run nodes keys ran = Ends segwit run.verdict run.steps nodes keys ran
