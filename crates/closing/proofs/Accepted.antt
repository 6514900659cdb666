-- The verdict's number 0 says that the table holds a tree: every refusal of the checks has a number. Assumes nothing.
use mathlib.Core.Path.{◌≡◌, refl}
use mathlib.Core.Bool.{Bool, true, false}
use mathlib.Core.List.{List, [], ◌∷◌}
use Prim.Native.Nat.{ℕ, ◌≤◌, ◌%◌}
use native.Mathlib.Omega.{arith}
use lib.Dec.{eqb}
use lib.ListN.{length}
use Rattle.base_input.specs.Tests.{is_b}
use Rattle.correctness.specs.Typed.{Typed}
use Rattle.std.specs.Prelude.{Ok, Err}
use Rattle.tables.specs.Choose.{pick}
use Rattle.standard.specs.Tree.{Tree, Trees, nil, ◌⊳◌}
use Rattle.standard.specs.Types.{type_of}
use Rattle.standard.specs.Table.{Node, node_cells}
use Rattle.encoding.specs.Checks as checks
use Rattle.encoding.specs.Checks.{Checked, finished, and_then, check_node, check_nodes, Found, found, refused, top_checked, root_checked}
use Rattle.encoding.specs.Encoding.{nodes_from, node_count, tree_in}
use Rattle.closing.specs.Verdicts.{verdict_on}
use Rattle.closing.proofs.NodeLaws.{Numbered, numbered_node}

abbrev FoundNumbered : Found → Type 0
FoundNumbered (found t) = Unit {0}
FoundNumbered (refused number reason) = 1 ≤ number

found_pick : (b : Bool) (x y : Found) → FoundNumbered x → FoundNumbered y → FoundNumbered (pick b x y)
found_pick true x y p q = p
found_pick false x y p q = q

numbered_then : (c : Checked) (next : Trees → Checked) → Numbered c → ((ts : Trees) → Numbered (next ts)) → Numbered (and_then c next)
numbered_then (finished ts) next p q = q ts
numbered_then (checks.refused number reason) next p q = p

numbered_nodes : (segwit : Bool) (material keys : List ℕ) (ns : List Node) (ts : Trees) → Numbered (check_nodes segwit material keys ns ts)
numbered_nodes segwit material keys [] ts = tt
numbered_nodes segwit material keys (n ∷ ns) ts =
    numbered_then (check_node segwit material keys n ts) (λ more. check_nodes segwit material keys ns more) (numbered_node segwit material keys n ts)
    (λ more. numbered_nodes segwit material keys ns more)

numbered_top : (t : Tree) (o : Typed) → FoundNumbered (top_checked t o)
numbered_top t (Ok c) = found_pick (is_b c.base) (found t) (refused 19 0) tt (omega arith)
numbered_top t (Err e) = omega arith

numbered_root : (segwit : Bool) (odd : ℕ) (c : Checked) → Numbered c → FoundNumbered (root_checked segwit odd c)
numbered_root segwit odd (checks.refused number reason) p = p
numbered_root segwit odd (finished nil) p = omega arith
numbered_root segwit odd (finished (t ⊳ nil)) p = found_pick (eqb odd 0) (top_checked t (type_of segwit t)) (refused 21 0) (numbered_top t (type_of segwit t)) (omega arith)
numbered_root segwit odd (finished (t ⊳ (u ⊳ ts))) p = omega arith

found_at_0 : (f : Found) → FoundNumbered f → (verdict_on f).number ≡ 0 → (t : Tree) × (f ≡ found t)
found_at_0 (found t) p e = (t, refl)
found_at_0 (refused number reason) p e = let no : ⊥ = omega (arith, p, e) in absurd no

-- THEOREM: the number 0 is said of a table that holds a tree
pub accepted : (segwit : Bool) (nodes keys material : List ℕ) → (verdict_on (tree_in segwit nodes keys material)).number ≡ 0 → (t : Tree) × (tree_in segwit nodes keys material ≡ found t)
unfolding tree_in
accepted segwit nodes keys material e =
    found_at_0 (root_checked segwit (length nodes % node_cells) (check_nodes segwit material keys (nodes_from nodes (node_count nodes) 0) nil))
    (numbered_root segwit (length nodes % node_cells) (check_nodes segwit material keys (nodes_from nodes (node_count nodes) 0) nil)
    (numbered_nodes segwit material keys (nodes_from nodes (node_count nodes) 0) nil)) e
