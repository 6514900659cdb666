-- The loop over the nodes: before node i the first i nodes stand for finished trees, and the checks from there on give what all of them give. A refusal is that of the whole table, and after the last node one root is asked for. Assumes nothing.
use mathlib.Core.Path.{◌≡◌, refl, sym, ap, ◌∙◌, subst}
use mathlib.Core.Bool.{Bool, true, false}
use mathlib.Core.List.{List}
use Prim.Native.Nat.{ℕ, suc, ◌+◌, ◌-◌, ◌≤◌, ◌<◌, ◌%◌}
use native.Mathlib.Omega.{arith}
use native.Mathlib.Numerals.{add-one}
use borrow.Author.Tests.{lt-ltb, le-ltb, eq-eqb, ne_eqb}
use lib.Dec.{eqb}
use lib.ListN.{length}
use Rattle.base_input.specs.Tests.{is_b}
use Rattle.correctness.specs.Typed.{Typed}
use Rattle.std.specs.Prelude.{Ok}
use Rattle.tables.specs.Choose.{pick}
use Rattle.tables.specs.Tables.{newest}
use Rattle.standard.specs.Tree.{Tree, Trees, nil, ◌⊳◌}
use Rattle.standard.proofs.TreeLaws.{size_some}
use Rattle.standard.specs.Types.{type_of}
use Rattle.standard.specs.Table.{node_cells, node_at}
use Rattle.judge.specs.NodeTable.{size_at}
use Rattle.encoding.specs.Checks as checks
use Rattle.encoding.specs.Checks.{Checked, finished, and_then, check_node, check_nodes, found, refused, top_checked, root_checked}
use Rattle.encoding.specs.Encoding.{nodes_from, node_count, tree_in}
use Rattle.encoding.proofs.Passed.{passed}
use Rattle.encoding.proofs.Stands.{Stands, empty, more}
use Rattle.closing.specs.Verdicts.{Verdict, verdict, verdict_on}
use Rattle.closing.specs.Held.{RootsAt, Rooted, top_type, check_held, base_told, odd_told, size_told, root_held}
use Rattle.closing.proofs.RootLaws.{stands_roots}
use Rattle.closing.proofs.NodeLaws.{verdict_for, check_told, passes_at_0}

-- One root

module _ (segwit : Bool) (table : List ℕ) where
  abbrev odd : ℕ
  odd = length table % node_cells

  abbrev n : ℕ
  n = node_count table

  base_told_lem : (t : Tree) (b : Bool) → pick b (verdict 0 0) (verdict 19 0) ≡ verdict_on (pick b (found t) (refused 19 0))
  base_told_lem t true = refl
  base_told_lem t false = refl

  odd_told_lem : (t : Tree) → type_of segwit t ≡ Ok (top_type table n) → (b : Bool) → pick b (base_told table) (verdict 21 0) ≡ verdict_on (pick b (top_checked t (type_of segwit t)) (refused 21 0))
  odd_told_lem t e true = base_told_lem t (is_b (top_type table n).base) ∙ sym (ap (λ (o : Typed). verdict_on (top_checked t o)) e)
  odd_told_lem t e false = refl

  -- the root's size is that of the whole table just where there is one tree
  pub root_told : (ts : Trees) → RootsAt segwit table n ts → root_held table ≡ verdict_on (root_checked segwit odd (finished ts))
  unfolding root_held
  root_told nil r = ap (λ (b : Bool). pick b (verdict 21 0) (size_told table)) (lt-ltb n 1 (omega (arith, r)))
  root_told (t ⊳ nil) r =
      let whole : size_at table (n - 1) ≡ n = omega (arith, r.0, r.1, r.3) in
      ap (λ (b : Bool). pick b (verdict 21 0) (size_told table)) (le-ltb n 1 (omega (arith, r.0, size_some t)))
      ∙ ap (λ (b : Bool). pick b (odd_told table) (verdict 21 0)) (eq-eqb (size_at table (n - 1)) n whole)
      ∙ odd_told_lem t r.2 (eqb odd 0)
  root_told (t ⊳ (u ⊳ ts)) r =
      let not-whole : size_at table (n - 1) ≡ n → ⊥ = λ e. omega (arith, e, r.0, r.1, r.3.0, size_some u) in
      ap (λ (b : Bool). pick b (verdict 21 0) (size_told table)) (le-ltb n 1 (omega (arith, r.0, size_some t)))
      ∙ ap (λ (b : Bool). pick b (odd_told table) (verdict 21 0)) (ne_eqb (size_at table (n - 1)) n not-whole)

-- The nodes

module _ (segwit : Bool) (table keys material : List ℕ) where
  abbrev count : ℕ
  count = node_count table

  abbrev from : ℕ → ℕ → Trees → Checked
  from k i ts = check_nodes segwit material keys (nodes_from table k i) ts

  -- before node i
  pub record Checking (i : ℕ) : Type 0 where
    pub counted : i ≤ count
    pub trees : Trees
    pub stands : Stands segwit material keys (newest (node_at table) i) trees
    pub same : from (count - i) i trees ≡ from count 0 nil

  pub begun : Checking 0
  begun = let z : count - 0 ≡ count = omega arith in record { counted = omega arith; trees = nil; stands = empty; same = ap (λ (k : ℕ). from k 0 nil) z }

  -- the whole table's verdict
  told : (c : Checked) → from count 0 nil ≡ c → verdict_on (root_checked segwit (length table % node_cells) c) ≡ verdict_on (tree_in segwit table keys material)
  unfolding tree_in
  told c e = sym (ap (λ (x : Checked). verdict_on (root_checked segwit (length table % node_cells) x)) e)

  module _ {i : ℕ} (h : Checking i) where
    roots : RootsAt segwit table i h.trees
    roots = stands_roots segwit material keys table i h.trees h.stands

    pub rooted : Rooted table i
    rooted = record { segwit = segwit; trees = h.trees; roots = roots }

    abbrev checked : Checked
    checked = check_node segwit material keys (node_at table i) h.trees

    one_more : i < count → and_then checked (λ ds. from (count - (i + 1)) (i + 1) ds) ≡ from count 0 nil
    one_more left =
        let e : count - i ≡ suc (count - (i + 1)) = omega arith in
        ap (λ (j : ℕ). and_then checked (λ ds. from (count - (i + 1)) j ds)) (add-one i) ∙ sym (ap (λ (k : ℕ). from k i h.trees) e) ∙ h.same

    module _ {v : Verdict} (left : i < count) (said : v ≡ check_held segwit material keys table i) where
      node_told : v ≡ verdict_for checked
      node_told = said ∙ check_told segwit material keys table i h.trees roots

      refused_told : (c : Checked) → checked ≡ c → v ≡ verdict_for c → (v.number ≡ 0 → ⊥) → v ≡ verdict_on (tree_in segwit table keys material)
      refused_told (finished ds) e w nonzero = absurd (nonzero (ap (λ (x : Verdict). x.number) w))
      refused_told (checks.refused number reason) e w nonzero =
          w ∙ told (checks.refused number reason) (sym (one_more left) ∙ ap (λ (c : Checked). and_then c (λ ds. from (count - (i + 1)) (i + 1) ds)) e)

      -- a node's refusal is the table's
      pub node_refused : (v.number ≡ 0 → ⊥) → v ≡ verdict_on (tree_in segwit table keys material)
      node_refused nonzero = refused_told checked refl node_told nonzero

      pub again : v.number ≡ 0 → Checking (i + 1)
      again z =
          let f = passes_at_0 segwit material keys (node_at table i) h.trees (sym (ap (λ (x : Verdict). x.number) node_told) ∙ z) in
          let p = passed segwit material keys (node_at table i) h.trees f.0 f.1 in
          let here : Stands segwit material keys (newest (node_at table) (suc i)) f.0 =
          subst (λ (x : Trees). Stands segwit material keys (newest (node_at table) (suc i)) x) (sym p.2) (more h.stands p.3) in
          record {
            counted = omega arith;
            trees = f.0;
            stands = subst (λ (k : ℕ). Stands segwit material keys (newest (node_at table) k) f.0) (sym (add-one i)) here;
            same = sym (ap (λ (c : Checked). and_then c (λ ds. from (count - (i + 1)) (i + 1) ds)) f.1) ∙ one_more left;
          }

    -- after the last node
    pub ended : {v : Verdict} → count ≤ i → v ≡ root_held table → v ≡ verdict_on (tree_in segwit table keys material)
    ended most e =
        let last : i ≡ count = ends i count most h.counted in
        let none_left : count - i ≡ 0 = omega arith in
        e
        ∙ root_told segwit table h.trees (subst (λ (k : ℕ). RootsAt segwit table k h.trees) last roots)
        ∙ told (finished h.trees) (sym h.same ∙ ap (λ (k : ℕ). from k i h.trees) none_left)
      where
        ends : (i count : ℕ) → count ≤ i → i ≤ count → i ≡ count
        ends i count a b = omega arith
