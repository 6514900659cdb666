-- The closing checks: document 01, "Encoder", "node by node 21, 11, 12, 13, 14; one root else 21; 19". The nodes are taken in the table's order over a stack of the trees that they make, the newest first.
use Rattle.std.specs.Prelude.{Bool, ◌&&◌, List, [], ◌∷◌, ℕ, zero, suc, eqb, length}
use Rattle.std.proofs.Math.Option.{Option, none, some}
use Rattle.base_input.specs.Numbers.{base_number, input_number, bool_number}
use Rattle.base_input.specs.Tests.{is_b}
use Rattle.correctness.specs.declared.Correctness.{Correctness}
use Rattle.correctness.specs.Typed.{Typed}
use Rattle.std.specs.Prelude.{Ok, Err}
use Rattle.correctness.specs.Reasons.{reason_of}
use Rattle.tables.specs.Choose.{pick}
use Rattle.standard.specs.Tree.{Tree, Trees, nil, ◌⊳◌}
use Rattle.standard.specs.Types.{type_of}
use Rattle.standard.specs.Table.{Node, add_node}
use Rattle.encoding.specs.Form.{well_formed}
use Rattle.encoding.specs.Values.{value_refusal}

-- the finished trees, or a refusal's number and reason
pub data Checked : Type 0 where
  finished : Trees → Checked
  refused : ℕ → ℕ → Checked

abbrev pub and_then : Checked → (Trees → Checked) → Checked
and_then (finished ts) next = next ts
and_then (refused number reason) next = refused number reason

-- "stored type differs"
abbrev pub holds_type : Node → Correctness → Bool
holds_type n c =
    eqb n.base (base_number c.base) && (eqb n.input (input_number c.input) && (eqb n.d (bool_number c.dissatisfiable) && eqb n.u (bool_number c.unit)))

-- 14: the rule's reason, or 13 if the stored type isn't the one worked out
abbrev pub type_checked : Node → Trees → Typed → Checked
type_checked n ts (Ok c) = pick (holds_type n c) (finished ts) (refused 14 13)
type_checked n ts (Err e) = refused 14 (reason_of e)

-- the newest tree is the node's own
abbrev pub newest_checked : Bool → Node → Option Trees → Checked
newest_checked segwit n none = refused 21 0
newest_checked segwit n (some nil) = refused 21 0
newest_checked segwit n (some (t ⊳ ts)) = type_checked n (t ⊳ ts) (type_of segwit t)

-- 11, 12 or 13, else the tree that the node makes
abbrev pub value_checked : ℕ → Checked → Checked
value_checked zero next = next
value_checked (suc n) next = refused (suc n) 0

-- one node over the finished trees
abbrev pub check_node : Bool → List ℕ → List ℕ → Node → Trees → Checked
check_node segwit material keys n ts =
    pick (well_formed segwit (length material) keys n ts) (value_checked (value_refusal segwit material keys n) (newest_checked segwit n (add_node segwit material keys n ts)))
    (refused 21 0)

abbrev pub check_nodes : Bool → List ℕ → List ℕ → List Node → Trees → Checked
check_nodes segwit material keys [] ts = finished ts
check_nodes segwit material keys (n ∷ ns) ts = and_then (check_node segwit material keys n ts) (λ more. check_nodes segwit material keys ns more)

-- the one tree of a node table, or a refusal's number and reason
pub data Found : Type 0 where
  found : Tree → Found
  refused : ℕ → ℕ → Found

-- 19
abbrev pub top_checked : Tree → Typed → Found
top_checked t (Ok c) = pick (is_b c.base) (found t) (refused 19 0)
top_checked t (Err e) = refused 14 (reason_of e)

-- "one root else 21"; numbers behind the last whole node belong to no tree
abbrev pub root_checked : Bool → ℕ → Checked → Found
root_checked segwit odd (refused number reason) = refused number reason
root_checked segwit odd (finished nil) = refused 21 0
root_checked segwit odd (finished (t ⊳ nil)) = pick (eqb odd 0) (top_checked t (type_of segwit t)) (refused 21 0)
root_checked segwit odd (finished (t ⊳ (u ⊳ ts))) = refused 21 0
