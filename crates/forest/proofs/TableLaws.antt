-- The flat node table: read by index, the newest first, it is the preorder of the trees whose nodes stand at its front; a new tree's node stands behind those of its children; and finished trees are subtrees as a reduction requires them. Assumes nothing.
use Rattle.std.specs.Prelude.{◌≡◌, refl, Bool, ℕ, zero, suc, ◌+◌, ◌-◌, ◌*◌, ◌≤◌, ◌<◌, length}
use Rattle.std.proofs.Common.{sym, ap, ◌∙◌, zero-add, arith}
use mathlib.Core.List.{List, [], ◌∷◌, ◌++◌, map, reverse, reverse-cons, reverse-reverse}
use Rattle.tables.specs.Tables.{flat, newest}
use Rattle.tables.proofs.NewestLaws.{newest_length}
use Rattle.standard.specs.Tree.{Tree, Trees, nil, ◌⊳◌, ◌⊕◌, many, size, sizes, key_counts}
use Rattle.standard.specs.Table.{Node, cells, root_node, node_table}
use Rattle.standard.proofs.TreeLaws.{size_some}
use Rattle.standard.proofs.TableLaws.{node_table_length}
use Rattle.judge.specs.Nodes.{top_node, under_top}
use Rattle.judge.specs.NodeTable.{node_at, size_at, Subtrees, Finished}
use Rattle.judge.specs.NodeTableLaws.{top_read, under_read, table_read}
use Rattle.forest.specs.Forest.{children, preorders, Forest}
use Rattle.forest.proofs.PreorderLaws.{new_root, preorders_length, preorders_reversed, top_size, under_root}

-- The table of finished trees

module _ (segwit : Bool) where
  pub table_nodes : (done : Trees) (rest : List ℕ) → newest (node_at (flat (map cells (node_table segwit done)) ++ rest)) (sizes done) ≡ preorders segwit 0 done
  table_nodes done rest =
      ap (newest (node_at (flat (map cells (node_table segwit done)) ++ rest))) (sym (node_table_length segwit done))
      ∙ table_read (node_table segwit done) rest
      ∙ preorders_reversed segwit 0 done

  -- what stands in the table is the node table of the trees whose nodes are read off it
  pub table_is : (ns : List Node) (done : Trees) → reverse ns ≡ preorders segwit 0 done → ns ≡ node_table segwit done
  table_is ns done e = sym (reverse-reverse ns) ∙ ap reverse (e ∙ sym (preorders_reversed segwit 0 done)) ∙ reverse-reverse (node_table segwit done)

  -- a new tree's node is put behind those of its children
  pub new_node_last : (t : Tree) (done : Trees) → node_table segwit (t ⊳ done) ≡ node_table segwit (◌⊕◌ (children t) done) ++ (root_node segwit t (key_counts done) ∷ [])
  new_node_last t done =
      let under : List Node = preorders segwit 0 (◌⊕◌ (children t) done) in
      sym (reverse-reverse (node_table segwit (t ⊳ done)))
      ∙ ap reverse (preorders_reversed segwit 0 (t ⊳ done) ∙ new_root segwit 0 t done)
      ∙ ap (λ (k : ℕ). reverse (root_node segwit t k ∷ under)) (zero-add (key_counts done))
      ∙ reverse-cons (root_node segwit t (key_counts done)) under
      ∙ ap (λ (l : List Node). l ++ (root_node segwit t (key_counts done) ∷ [])) (ap reverse (sym (preorders_reversed segwit 0 (◌⊕◌ (children t) done))) ∙ reverse-reverse (node_table segwit (◌⊕◌ (children t) done)))

-- What a reduction requires

subtrees : (segwit : Bool) (k m : ℕ) (table : List ℕ) (done : Trees) → newest (node_at table) m ≡ preorders segwit 0 done → k ≤ many done → Subtrees k m table
subtrees segwit zero m table done e h = tt
subtrees segwit (suc k) m table nil e h = let z : ⊥ = omega arith in absurd z
subtrees segwit (suc k) m table (t ⊳ done) e h =
    let counted : m ≡ size t + sizes done = sym (newest_length (node_at table) m) ∙ ap length e ∙ preorders_length segwit 0 (t ⊳ done) in
    let least : 1 ≤ size t = size_some t in
    let some : 1 ≤ m = omega arith in
    let size_is : size_at table (m - 1) ≡ size t = ap (λ (n : Node). n.size) (sym (top_read table m some)) ∙ ap (λ (ns : List Node). (top_node ns).size) e ∙ top_size segwit 0 t done in
    let rest : newest (node_at table) (m - size_at table (m - 1)) ≡ preorders segwit 0 done = sym (under_read table m some refl) ∙ ap under_top e ∙ under_root segwit 0 t done in
    (some, omega arith, omega arith, subtrees segwit k (m - size_at table (m - 1)) table done rest (omega arith))

-- the nodes of k finished trees at least are k subtrees at least
pub finished : (segwit : Bool) (k m : ℕ) (table : List ℕ) {keys : List ℕ} (done : Trees) → Forest segwit (newest (node_at table) m) keys done → k ≤ many done → 9 * m ≤ length table → m + 1 < 4294967296 → Finished k m table
finished segwit k m table done forest enough room few = record { in_table = room; countable = few; subtrees = subtrees segwit k m table done forest.nodes_are enough }
