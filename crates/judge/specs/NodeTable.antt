-- For the proof: the node table as the code reads it (document 01, "Tokens to tree": nine numbers a node), what a reduction requires of it, and the code's answers.
use Rattle.std.specs.Prelude.{Result, Ok, Err, ℕ, zero, suc, ◌+◌, ◌*◌, ◌-◌, ◌≤◌, ◌<◌, List, length}
use Rattle.standard.specs.Table.{Node}
pub use Rattle.standard.specs.Table.{node_at}
use Rattle.judge.specs.Nodes.{Making, makes, refuses}
use Rattle.judge.specs.declared.Node as code

abbrev pub size_at : List ℕ → ℕ → ℕ
size_at table i = (node_at table i).size

-- the first m nodes end in k subtrees at least, by their roots' sizes
abbrev pub Subtrees : ℕ → ℕ → List ℕ → Type 0
Subtrees zero m table = Unit {0}
Subtrees (suc k) m table =
    (1 ≤ m) × (1 ≤ size_at table (m - 1)) × (size_at table (m - 1) ≤ m) × Subtrees k (m - size_at table (m - 1)) table

-- what a reduction of k children requires of a table of m nodes: they stand in it, one more can be counted in 32 bits, and the children are there
pub record Finished (k m : ℕ) (table : List ℕ) : Type 0 where
  pub in_table : 9 * m ≤ length table
  pub countable : m + 1 < 4294967296
  pub subtrees : Subtrees k m table

-- the node that the code hands on
abbrev pub node_of : code.Node → Node
node_of n =
    record { kind = n.kind; number = n.number; count = n.count; place = n.place; size = n.size; base = n.base; input = n.input; d = n.d; u = n.u }

-- a reduction's answer: the node, or 14's reason
abbrev pub making_of : Result code.Node ℕ → Making
making_of (Ok n) = makes (node_of n)
making_of (Err reason) = refuses reason
