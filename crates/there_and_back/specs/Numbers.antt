-- A refusal of the checks has a number from 1 on. Assumes nothing.
use Rattle.std.specs.Prelude.{Bool, true, false, List, [], ◌∷◌, ℕ, zero, suc, ◌%◌, ◌≤◌, eqb, length}
use Rattle.std.proofs.Math.Option.{Option, none, some}
use Rattle.std.proofs.Common.{arith}
use Rattle.base_input.specs.Tests.{is_b}
use Rattle.correctness.specs.Typed.{Typed}
use Rattle.std.specs.Prelude.{Ok, Err}
use Rattle.tables.specs.Choose.{pick}
use Rattle.standard.specs.Tree.{Tree, Trees, nil, ◌⊳◌}
use Rattle.standard.specs.Types.{type_of}
use Rattle.standard.specs.Table.{Node, node_cells, add_node}
use Rattle.encoding.specs.Form.{well_formed}
use Rattle.encoding.specs.Values.{value_refusal}
use Rattle.encoding.specs.Checks as checks
use Rattle.encoding.specs.Checks.{Checked, finished, and_then, holds_type, type_checked, newest_checked, value_checked, check_node, check_nodes, Found, found, refused, top_checked, root_checked}
use Rattle.encoding.specs.Encoding.{nodes_from, node_count, tree_in}

abbrev Numbered : Checked → Type 0
Numbered (finished ts) = Unit {0}
Numbered (checks.refused number reason) = 1 ≤ number

abbrev pub FoundNumbered : Found → Type 0
FoundNumbered (found t) = Unit {0}
FoundNumbered (refused number reason) = 1 ≤ number

module _ (segwit : Bool) (material keys : List ℕ) where
  type_numbered : (n : Node) (ts : Trees) (o : Typed) → Numbered (type_checked n ts o)
  type_numbered n ts (Ok c) = by (holds_type n c)
    where
      by : (b : Bool) → Numbered (pick b (finished ts) (checks.refused 14 13))
      by true = tt
      by false = omega arith
  type_numbered n ts (Err e) = omega arith

  newest_numbered : (n : Node) (o : Option Trees) → Numbered (newest_checked segwit n o)
  newest_numbered n none = omega arith
  newest_numbered n (some nil) = omega arith
  newest_numbered n (some (t ⊳ ts)) = type_numbered n (t ⊳ ts) (type_of segwit t)

  value_numbered : (v : ℕ) (c : Checked) → Numbered c → Numbered (value_checked v c)
  value_numbered zero c h = h
  value_numbered (suc v) c h = omega arith

  node_numbered : (n : Node) (ts : Trees) → Numbered (check_node segwit material keys n ts)
  node_numbered n ts = by (well_formed segwit (length material) keys n ts)
    where
      by : (b : Bool) → Numbered (pick b (value_checked (value_refusal segwit material keys n) (newest_checked segwit n (add_node segwit material keys n ts))) (checks.refused 21 0))
      by true = value_numbered (value_refusal segwit material keys n) (newest_checked segwit n (add_node segwit material keys n ts)) (newest_numbered n (add_node segwit material keys n ts))
      by false = omega arith

  next_numbered : (c : Checked) (f : Trees → Checked) → Numbered c → ((ts : Trees) → Numbered (f ts)) → Numbered (and_then c f)
  next_numbered (finished ts) f h g = g ts
  next_numbered (checks.refused number reason) f h g = h

  nodes_numbered : (ns : List Node) (ts : Trees) → Numbered (check_nodes segwit material keys ns ts)
  nodes_numbered [] ts = tt
  nodes_numbered (n ∷ ns) ts = next_numbered (check_node segwit material keys n ts) (λ more. check_nodes segwit material keys ns more) (node_numbered n ts) (λ more. nodes_numbered ns more)

  top_numbered : (t : Tree) (o : Typed) → FoundNumbered (top_checked t o)
  top_numbered t (Ok c) = by (is_b c.base)
    where
      by : (b : Bool) → FoundNumbered (pick b (found t) (refused 19 0))
      by true = tt
      by false = omega arith
  top_numbered t (Err e) = omega arith

  root_numbered : (odd : ℕ) (c : Checked) → Numbered c → FoundNumbered (root_checked segwit odd c)
  root_numbered odd (checks.refused number reason) h = h
  root_numbered odd (finished nil) h = omega arith
  root_numbered odd (finished (t ⊳ nil)) h = by (eqb odd 0)
    where
      by : (b : Bool) → FoundNumbered (pick b (top_checked t (type_of segwit t)) (refused 21 0))
      by true = top_numbered t (type_of segwit t)
      by false = omega arith
  root_numbered odd (finished (t ⊳ (u ⊳ ts))) h = omega arith

  pub tree_numbered : (nodes : List ℕ) → FoundNumbered (tree_in segwit nodes keys material)
  unfolding tree_in
  tree_numbered nodes = root_numbered (length nodes % node_cells) (check_nodes segwit material keys (nodes_from nodes (node_count nodes) 0) nil) (nodes_numbered (nodes_from nodes (node_count nodes) 0) nil)
