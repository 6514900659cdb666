-- The whole outcome of the encoder: document 01, "Encoder". From the script kind, the node table, the key table and the material, the work table's length and what the output held, the answer and what the two lent tables hold at the end.
use Rattle.std.specs.Prelude.{Bool, List, [], ◌∷◌, ◌++◌, ℕ, zero, suc, ◌+◌, ◌*◌, ◌/◌, ◌%◌, eqb, leb, length, drop}
use Rattle.lex.specs.Script.{script_limit}
use Rattle.spelling.specs.Spell.{spell}
use Rattle.tables.specs.Choose.{pick}
use Rattle.tables.specs.Tables.{zeros}
use Rattle.standard.specs.Tree.{nil}
use Rattle.standard.specs.Written.{written}
use Rattle.standard.specs.Table.{Node, node_cells, node_at}
use Rattle.encoding.specs.Checks.{Found, found, refused, check_nodes, root_checked}

-- the first n nodes from number i on, in the table's order
abbrev pub nodes_from : List ℕ → ℕ → ℕ → List Node
nodes_from table zero i = []
nodes_from table (suc n) i = node_at table i ∷ nodes_from table n (suc i)

abbrev pub node_count : List ℕ → ℕ
node_count table = length table / node_cells

-- the one tree that a node table holds, checked
unfoldable pub tree_in : Bool → List ℕ → List ℕ → List ℕ → Found
tree_in segwit nodes keys material =
    root_checked segwit (length nodes % node_cells) (check_nodes segwit material keys (nodes_from nodes (node_count nodes) 0) nil)

-- "Its answer is number, reason, place (always 0) and bytes written (0 if refused)"
pub record Answer : Type 0 where
  pub number : ℕ
  pub reason : ℕ
  pub place : ℕ
  pub bytes : ℕ

pub record Outcome : Type 0 where
  pub answer : Answer
  pub output : List ℕ
  pub work : List ℕ

-- "refused, the output is untouched"; "Work ends zero either way"
abbrev pub refusing : List ℕ → ℕ → ℕ → ℕ → Outcome
refusing output work number reason = record { answer = record { number = number; reason = reason; place = 0; bytes = 0 }; output = output; work = zeros work }

-- "It writes canonical bytes at the front, .. the rest of the output as it was"
abbrev pub writing : List ℕ → ℕ → List ℕ → Outcome
writing output work bytes =
    record { answer = record { number = 0; reason = 0; place = 0; bytes = length bytes }; output = bytes ++ drop (length bytes) output; work = zeros work }

-- "length over 10,000 is 1; work below 8 per node plus 2 is 17; 22"
abbrev pub written_within : ℕ → ℕ → List ℕ → List ℕ → Outcome
written_within nodes work output bytes =
    pick (leb (length bytes) script_limit)
    (pick (leb (8 * nodes + 2) work) (pick (leb (length bytes) (length output)) (writing output work bytes) (refusing output work 22 0)) (refusing output work 17 0))
    (refusing output work 1 0)

abbrev pub encoded : ℕ → ℕ → List ℕ → Found → Outcome
encoded nodes work output (refused number reason) = refusing output work number reason
encoded nodes work output (found t) = written_within nodes work output (spell (written t))

-- kind 0 is segwit, kind 1 tapscript
unfoldable pub encoding_of : ℕ → List ℕ → List ℕ → List ℕ → ℕ → List ℕ → Outcome
encoding_of kind nodes keys material work output =
    pick (leb kind 1) (encoded (node_count nodes) work output (tree_in (eqb kind 0) nodes keys material)) (refusing output work 20 0)
