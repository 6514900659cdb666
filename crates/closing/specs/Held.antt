-- For the proof: the closing checks as the code makes them, on the flat node table, where the trees before a node are found by their roots' sizes.
use Rattle.std.specs.Prelude.{◌≡◌, Bool, false, ◌&&◌, List, [], ◌∷◌, ℕ, zero, suc, ◌+◌, ◌-◌, ◌≤◌, ◌%◌, eqb, ltb, length}
use Rattle.std.proofs.Math.Option.{Option, none, some}
use Rattle.base_input.specs.Tests.{is_b}
use Rattle.correctness.specs.declared.Correctness.{Correctness}
use Rattle.correctness.specs.Typed.{Typed}
use Rattle.std.specs.Prelude.{Ok, Err}
use Rattle.correctness.specs.Reasons.{reason_of}
use Rattle.correctness.specs.Rules.{leaf_type, and_or, threshold}
use Rattle.tables.specs.Choose.{pick}
use Rattle.standard.specs.Tree.{Trees, nil, ◌⊳◌, size}
use Rattle.standard.specs.Types.{type_of}
use Rattle.standard.specs.Table.{Node, node_cells, node_at, terminal_of}
use Rattle.judge.specs.Nodes.{held_type, leaf_of, cast_of, combination_of}
use Rattle.judge.specs.NodeTable.{size_at, Subtrees}
use Rattle.encoding.specs.Form.{Shape, shape_of, unused_are_zero, in_range, child_count}
use Rattle.encoding.specs.Values.{value_refusal}
use Rattle.encoding.specs.Checks.{holds_type}
use Rattle.encoding.specs.Encoding.{node_count}
use Rattle.closing.specs.Verdicts.{Verdict, verdict}

-- the first m nodes are those of these trees, the newest first: each root holds its tree's size and type
abbrev pub RootsAt : Bool → List ℕ → ℕ → Trees → Type 0
RootsAt segwit table m nil = m ≡ 0
RootsAt segwit table m (t ⊳ ts) =
    (size t ≤ m) × (size_at table (m - 1) ≡ size t) × (type_of segwit t ≡ Ok (held_type (node_at table (m - 1)))) × RootsAt segwit table (m - size t) ts

-- of some trees
pub record Rooted (table : List ℕ) (m : ℕ) : Type 0 where
  pub segwit : Bool
  pub trees : Trees
  pub roots : RootsAt segwit table m trees

-- the newest tree's type, and how many nodes stand under its nodes
abbrev pub top_type : List ℕ → ℕ → Correctness
top_type table m = held_type (node_at table (m - 1))

abbrev pub under : List ℕ → ℕ → ℕ
under table m = m - size_at table (m - 1)

-- from the first `at` of m nodes on there are k trees more, and then the size is right
abbrev pub fits_from : List ℕ → ℕ → ℕ → ℕ → ℕ → Bool
fits_from table zero at m size = eqb size (m - at + 1)
fits_from table (suc k) at m size = pick (ltb at 1) false (fits_from table k (under table at) m size)

-- the types of the k newest trees
abbrev pub types_held : List ℕ → ℕ → ℕ → List Correctness
types_held table zero m = []
types_held table (suc k) m = top_type table m ∷ types_held table k (under table m)

abbrev pub pair_held : List ℕ → ℕ → ℕ → Typed
pair_held table m kind = combination_of kind (top_type table m) (top_type table (under table m))

abbrev pub and_or_held : List ℕ → ℕ → Typed
and_or_held table m = and_or (top_type table m) (top_type table (under table (under table m))) (top_type table (under table m))

unfoldable pub type_held : Shape → Node → List ℕ → ℕ → Typed
type_held s n table m =
    pick s.counts_children (threshold (types_held table n.count m))
    (pick (eqb s.children 1) (cast_of n.kind (top_type table m))
    (pick (eqb s.children 2) (pair_held table m n.kind)
    (pick (eqb s.children 3) (and_or_held table m)
    (Ok (leaf_type (leaf_of n.kind))))))

-- the node's children are there
abbrev pub Children : Shape → Node → List ℕ → ℕ → Type 0
Children s n table m = Subtrees (child_count s n) m table

abbrev pub formed_held : ℕ → List ℕ → Shape → Node → List ℕ → ℕ → Bool
formed_held material keys s n table m = unused_are_zero s n && (in_range material keys s n && fits_from table (child_count s n) m m n.size)

abbrev pub judged_held : Node → Typed → Verdict
judged_held n (Ok c) = pick (holds_type n c) (verdict 0 0) (verdict 14 13)
judged_held n (Err e) = verdict 14 (reason_of e)

abbrev pub value_held : ℕ → Verdict → Verdict
value_held zero next = next
value_held (suc n) next = verdict (suc n) 0

abbrev pub shape_checked : Bool → List ℕ → List ℕ → List ℕ → ℕ → Option Shape → Verdict
shape_checked segwit material keys table m none = verdict 21 0
shape_checked segwit material keys table m (some s) =
    pick (formed_held (length material) keys s (node_at table m) table m)
    (value_held (value_refusal segwit material keys (node_at table m)) (judged_held (node_at table m) (type_held s (node_at table m) table m)))
    (verdict 21 0)

unfoldable pub check_held : Bool → List ℕ → List ℕ → List ℕ → ℕ → Verdict
check_held segwit material keys table m = shape_checked segwit material keys table m (shape_of segwit (terminal_of (node_at table m).kind))

-- 19; no number behind the last whole node; one root
abbrev pub base_told : List ℕ → Verdict
base_told table = pick (is_b (top_type table (node_count table)).base) (verdict 0 0) (verdict 19 0)

abbrev pub odd_told : List ℕ → Verdict
odd_told table = pick (eqb (length table % node_cells) 0) (base_told table) (verdict 21 0)

abbrev pub size_told : List ℕ → Verdict
size_told table = pick (eqb (size_at table (node_count table - 1)) (node_count table)) (odd_told table) (verdict 21 0)

unfoldable pub root_held : List ℕ → Verdict
root_held table = pick (ltb (node_count table) 1) (verdict 21 0) (size_told table)
