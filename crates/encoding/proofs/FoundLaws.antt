-- What is known of a node table whose checks found a tree: its nodes stand for that tree alone, every one has passed, no number stands behind the last node, and the tree has base B. Assumes nothing.
use mathlib.Core.Path.{◌≡◌, refl, sym, ap, subst}
use mathlib.Core.Bool.{Bool, true, false}
use mathlib.Core.List.{List}
use Prim.Native.Nat.{ℕ, zero, suc, ◌+◌, ◌%◌}
use native.Mathlib.Omega.{arith}
use borrow.Author.Tests.{eqb-true}
use lib.Dec.{eqb}
use lib.ListN.{length}
use Rattle.base_input.specs.Tests.{is_b}
use Rattle.base_input.specs.TestLaws.{only_b}
use Rattle.correctness.specs.Typed.{Typed}
use Rattle.std.specs.Prelude.{Ok, Err}
use Rattle.tables.specs.Choose.{pick}
use Rattle.tables.specs.Tables.{newest}
use Rattle.standard.specs.Tree.{Tree, Trees, nil, ◌⊳◌}
use Rattle.standard.specs.Types.{type_of, WellTypedB}
use Rattle.standard.specs.Table.{node_cells, node_at}
use Rattle.encoding.specs.Checks as checks
use Rattle.encoding.specs.Checks.{Checked, finished, and_then, check_node, check_nodes, Found, found, refused, top_checked, root_checked}
use Rattle.encoding.specs.Encoding.{nodes_from, node_count, tree_in}
use Rattle.encoding.proofs.Passed.{passed}
use Rattle.encoding.proofs.Stands.{Stands, empty, more}

-- the tree that was found
pub record Holding (segwit : Bool) (nodes keys material : List ℕ) (t : Tree) : Type 0 where
  pub stands : Stands segwit material keys (newest (node_at nodes) (node_count nodes)) (t ⊳ nil)
  pub whole : length nodes % node_cells ≡ 0
  pub well_typed : WellTypedB segwit t

abbrev is_found : Found → ℕ
is_found (found t) = 1
is_found (refused number reason) = 0

not_refused : {A : Type 0} (number reason : ℕ) (t : Tree) → refused number reason ≡ found t → A
not_refused number reason t e = let z : ◌≡◌ {A = ℕ} 0 1 = ap is_found e in let no : ⊥ = omega arith in absurd no

module _ (segwit : Bool) (nodes keys material : List ℕ) where
  abbrev standing : ℕ → Trees → Type 0
  standing i ts = Stands segwit material keys (newest (node_at nodes) i) ts

  abbrev odd : ℕ
  odd = length nodes % node_cells

  nodes_stand : (n i : ℕ) (ts ds : Trees) → standing i ts → check_nodes segwit material keys (nodes_from nodes n i) ts ≡ finished ds → standing (n + i) ds
  nodes_stand zero i ts ds s e = let f : i ≡ 0 + i = omega arith in subst (λ (k : ℕ). standing k ds) f (subst (λ (x : Trees). standing i x) (cc) s)
  nodes_stand (suc n) i ts ds s e = by (check_node segwit material keys (node_at nodes i) ts) refl (λ next here g. nodes_stand n (suc i) next ds here g) e
    where
      by : (c : Checked) → check_node segwit material keys (node_at nodes i) ts ≡ c
          → ((next : Trees) → standing (suc i) next → check_nodes segwit material keys (nodes_from nodes n (suc i)) next ≡ finished ds → standing (n + suc i) ds)
          → and_then c (λ next. check_nodes segwit material keys (nodes_from nodes n (suc i)) next) ≡ finished ds → standing (suc n + i) ds
      by (finished next) c onward g =
          let p = passed segwit material keys (node_at nodes i) ts next c in
          let here : standing (suc i) next = subst (λ (x : Trees). standing (suc i) x) (sym p.2) (more s p.3) in
          let f : n + suc i ≡ suc n + i = omega arith in
          subst (λ (k : ℕ). standing k ds) f (onward next here g)
      by (checks.refused number reason) c onward g = let z : ◌≡◌ {A = ℕ} 0 1 = cc in let no : ⊥ = omega arith in absurd no

  -- THEOREM: a tree that was found stands in the table
  pub found_holding : (t : Tree) → tree_in segwit nodes keys material ≡ found t → Holding segwit nodes keys material t
  unfolding tree_in
  found_holding t e = by_nodes (check_nodes segwit material keys (nodes_from nodes (node_count nodes) 0) nil) refl e
    where
      by_top : (u : Tree) → standing (node_count nodes) (u ⊳ nil) → odd ≡ 0 → (o : Typed) → type_of segwit u ≡ o → top_checked u o ≡ found t → Holding segwit nodes keys material t
      by_top u s w (Err r) o f = not_refused _ _ t f
      by_top u s w (Ok c) o f = by (is_b c.base) refl f
        where
          by : (b : Bool) → is_b c.base ≡ b → pick b (found u) (refused 19 0) ≡ found t → Holding segwit nodes keys material t
          by false h g = not_refused _ _ t g
          by true h g =
              let same : u ≡ t = cc in
              subst (λ (x : Tree). Holding segwit nodes keys material x) same (record { stands = s; whole = w; well_typed = (c, o, only_b c.base h) })

      by_odd : (u : Tree) → standing (node_count nodes) (u ⊳ nil) → (b : Bool) → eqb odd 0 ≡ b → pick b (top_checked u (type_of segwit u)) (refused 21 0) ≡ found t → Holding segwit nodes keys material t
      by_odd u s true w f = by_top u s (eqb-true odd 0 w) (type_of segwit u) refl f
      by_odd u s false w f = not_refused _ _ t f

      by_nodes : (c : Checked) → check_nodes segwit material keys (nodes_from nodes (node_count nodes) 0) nil ≡ c → root_checked segwit odd c ≡ found t → Holding segwit nodes keys material t
      by_nodes (checks.refused number reason) c f = not_refused _ _ t f
      by_nodes (finished nil) c f = not_refused _ _ t f
      by_nodes (finished (u ⊳ (v ⊳ ts))) c f = not_refused _ _ t f
      by_nodes (finished (u ⊳ nil)) c f =
          let g : node_count nodes + 0 ≡ node_count nodes = omega arith in
          by_odd u (subst (λ (k : ℕ). standing k (u ⊳ nil)) g (nodes_stand (node_count nodes) 0 nil (u ⊳ nil) empty c)) (eqb odd 0) refl f
