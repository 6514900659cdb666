-- The trees behind the node table: a table whose nodes stand for trees has those trees' roots where their sizes say; a right size, the children and their types, read off the table, are those of the trees. Assumes nothing.
-- Why: each root holds its tree's size, so the next root lies that many nodes before it.
use mathlib.Core.Path.{◌≡◌, refl, sym, ap, ◌∙◌, subst}
use mathlib.Core.Bool.{Bool, true, false, ◌&&◌}
use mathlib.Core.List.{List, ◌∷◌}
use Prim.Native.Nat.{ℕ, zero, suc, ◌+◌, ◌-◌, ◌≤◌, ◌<◌}
use native.Mathlib.Omega.{arith}
use borrow.Author.Tests.{le-leb, lt-leb, leb-true, leb-false, lt-ltb, le-ltb}
use lib.Dec.{eqb, leb}
use lib.ListN.{drop}
use Rattle.correctness.specs.Typed.{Typed}
use Rattle.std.specs.Prelude.{Ok}
use Rattle.tables.specs.Choose.{pick}
use Rattle.tables.specs.Tables.{newest}
use Rattle.tables.proofs.NewestLaws.{newest_length, newest_drop}
use Rattle.standard.specs.Tree.{Tree, Trees, nil, ◌⊳◌, many, size, sizes}
use Rattle.standard.proofs.TreeLaws.{size_some}
use Rattle.standard.specs.Types.{all, and_then, type_of, types_of}
use Rattle.standard.specs.Table.{Node, node_at}
use Rattle.judge.specs.Nodes.{held_type, top_node}
use Rattle.judge.specs.NodeTable.{Subtrees}
use Rattle.judge.specs.NodeTableLaws.{top_read}
use Rattle.encoding.specs.Form.{sizes_of_first}
use Rattle.encoding.proofs.Stands.{Stands, empty, more, stands_length, stands_under}
use Rattle.closing.specs.Held.{RootsAt, top_type, under, fits_from, types_held}

-- the first k trees of a stack, and the rest
abbrev pub first_trees : ℕ → Trees → Trees
first_trees zero ts = nil
first_trees (suc k) nil = nil
first_trees (suc k) (t ⊳ ts) = t ⊳ first_trees k ts

abbrev pub rest_trees : ℕ → Trees → Trees
rest_trees zero ts = ts
rest_trees (suc k) nil = nil
rest_trees (suc k) (t ⊳ ts) = rest_trees k ts

-- Where the roots are

module _ (segwit : Bool) (material keys : List ℕ) where
  top_passed : {ns : List Node} {ts : Trees} → Stands segwit material keys ns ts → (t : Tree) (us : Trees) → ts ≡ t ⊳ us → ((top_node ns).size ≡ size t) × (type_of segwit t ≡ Ok (held_type (top_node ns)))
  top_passed empty t us e = let z : 0 ≡ suc (many us) = ap many e in let no : ⊥ = omega arith in absurd no
  top_passed (more {n} {ns} {ts} {us} {t} s p) x rest e =
      let same : t ≡ x = cc in
      (p.sized ∙ ap size same, sym (ap (type_of segwit) same) ∙ p.typed)

  pub stands_roots : (table : List ℕ) (m : ℕ) (ts : Trees) → Stands segwit material keys (newest (node_at table) m) ts → RootsAt segwit table m ts
  stands_roots table m nil s = sym (newest_length (node_at table) m) ∙ stands_length segwit material keys s
  stands_roots table m (t ⊳ ts) s =
      let l : m ≡ size t + sizes ts = sym (newest_length (node_at table) m) ∙ stands_length segwit material keys s in
      let some : 1 ≤ m = omega (arith, l, size_some t) in
      let top : top_node (newest (node_at table) m) ≡ node_at table (m - 1) = top_read table m some in
      let p = top_passed s t ts refl in
      let z : size t + 0 ≡ size t = omega arith in
      let rest : Stands segwit material keys (newest (node_at table) (m - size t)) ts =
      subst (λ (ns : List Node). Stands segwit material keys ns ts) (ap (λ (k : ℕ). drop k (newest (node_at table) m)) z ∙ newest_drop (node_at table) m (size t))
      (stands_under segwit material keys s (t ⊳ nil) ts refl) in (
        omega (arith, l),
        sym (ap (λ (n : Node). n.size) top) ∙ p.0,
        p.1 ∙ ap (λ (n : Node). Ok (held_type n)) top,
        stands_roots table (m - size t) ts rest,
      )

-- What is read off the table

leb_suc : (a b : ℕ) → leb (suc a) (suc b) ≡ leb a b
leb_suc a b = by (leb a b) refl
  where
    by : (x : Bool) → leb a b ≡ x → leb (suc a) (suc b) ≡ leb a b
    by true e = let h : a ≤ b = leb-true a b e in le-leb (suc a) (suc b) (omega arith) ∙ sym e
    by false e = let h : b < a = leb-false a b e in lt-leb (suc a) (suc b) (omega arith) ∙ sym e

module _ (segwit : Bool) (table : List ℕ) where
  -- there are so many trees, and the size is theirs
  fits_from_lem : (k at m size : ℕ) (ts : Trees) → RootsAt segwit table at ts → at ≤ m → fits_from table k at m size ≡ (leb k (many ts) && eqb size (m - at + sizes_of_first k ts + 1))
  fits_from_lem zero at m s ts r h =
      let z : m - at + 1 ≡ m - at + 0 + 1 = omega arith in
      ap (eqb s) z ∙ sym (ap (λ (b : Bool). b && eqb s (m - at + 0 + 1)) (le-leb 0 (many ts) (omega arith)))
  fits_from_lem (suc k) at m s nil r h =
      ap (λ (b : Bool). pick b false (fits_from table k (under table at) m s)) (lt-ltb at 1 (omega (arith, r)))
      ∙ sym (ap (λ (b : Bool). b && eqb s (m - at + 0 + 1)) (lt-leb (suc k) 0 (omega arith)))
  fits_from_lem (suc k) at m s (t ⊳ ts) r h =
      let some : 1 ≤ at = omega (arith, r.0, size_some t) in
      let sum : m - (at - size t) + sizes_of_first k ts + 1 ≡ m - at + (size t + sizes_of_first k ts) + 1 = sums m at (size t) (sizes_of_first k ts) r.0 h in
      ap (λ (b : Bool). pick b false (fits_from table k (under table at) m s)) (le-ltb at 1 some)
      ∙ ap (λ (j : ℕ). fits_from table k (at - j) m s) r.1
      ∙ fits_from_lem k (at - size t) m s ts r.3 (omega arith)
      ∙ ap (λ (b : Bool). b && eqb s (m - (at - size t) + sizes_of_first k ts + 1)) (sym (leb_suc k (many ts)))
      ∙ ap (λ (j : ℕ). leb (suc k) (suc (many ts)) && eqb s j) sum
    where
      sums : (m at t rest : ℕ) → t ≤ at → at ≤ m → m - (at - t) + rest + 1 ≡ m - at + (t + rest) + 1
      sums m at t rest a b = omega arith

  pub fits_on_trees : (k m size : ℕ) (ts : Trees) → RootsAt segwit table m ts → fits_from table k m m size ≡ (leb k (many ts) && eqb size (sizes_of_first k ts + 1))
  fits_on_trees k m s ts r =
      let z : m - m + sizes_of_first k ts + 1 ≡ sizes_of_first k ts + 1 = none_yet m (sizes_of_first k ts) in
      fits_from_lem k m m s ts r (omega arith) ∙ ap (λ (j : ℕ). leb k (many ts) && eqb s j) z
    where
      none_yet : (m x : ℕ) → m - m + x + 1 ≡ x + 1
      none_yet m x = omega arith

  -- where there are so many trees, their roots can be found
  pub subtrees_there : (k m : ℕ) (ts : Trees) → RootsAt segwit table m ts → k ≤ many ts → Subtrees k m table
  subtrees_there zero m ts r h = tt
  subtrees_there (suc k) m nil r h = let no : ⊥ = omega arith in absurd no
  subtrees_there (suc k) m (t ⊳ ts) r h = (
    omega (arith, r.0, size_some t),
    omega (arith, r.1, size_some t),
    omega (arith, r.0, r.1),
    subst (λ (j : ℕ). Subtrees k (m - j) table) (sym r.1) (subtrees_there k (m - size t) ts r.3 (omega arith)),
  )

  -- and their types are those that the roots hold
  pub types_on_trees : (k m : ℕ) (ts : Trees) → RootsAt segwit table m ts → k ≤ many ts → types_of segwit (first_trees k ts) ≡ all (types_held table k m)
  types_on_trees zero m ts r h = refl
  types_on_trees (suc k) m nil r h = let no : ⊥ = omega arith in absurd no
  types_on_trees (suc k) m (t ⊳ ts) r h =
      ap (λ (o : Typed). and_then o (types_of segwit (first_trees k ts))) r.2
      ∙ ap (and_then (Ok (top_type table m))) (types_on_trees k (m - size t) ts r.3 (omega arith))
      ∙ ap (λ (j : ℕ). all (top_type table m ∷ types_held table k (m - j))) (sym r.1)
