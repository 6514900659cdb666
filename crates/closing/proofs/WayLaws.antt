-- The ways through the code of the closing checks, against what is held of the flat table: sizes, types, and the loops over a node's children. Assumes nothing.
use mathlib.Core.Path.{◌≡◌, refl, sym, ap, ◌∙◌, subst}
use mathlib.Core.Bool.{Bool, true, false, not}
use mathlib.Core.List.{List}
use Prim.Native.Nat.{ℕ, suc, ◌+◌, ◌-◌, ◌≤◌, ◌<◌, ◌%◌}
use native.Mathlib.Omega.{arith}
use borrow.Author.Tests.{not-true, not-false, lt-ltb, le-ltb, eq-eqb, ne_eqb}
use lib.Dec.{eqb, ltb}
use lib.ListN.{length}
use Rattle.base_input.specs.Tests.{is_b}
use Rattle.correctness.specs.declared.Correctness.{Correctness}
use Rattle.correctness.specs.declared.ErrorKind.{ErrorKind}
use Rattle.correctness.specs.declared.Leaf.{Leaf}
use Rattle.correctness.specs.Typed.{Typed}
use Rattle.std.specs.Prelude.{Ok, Err}
use Rattle.correctness.specs.Rules.{leaf_type, no_children, threshold_child, threshold_from, threshold, onward}
use Rattle.tables.specs.Choose.{pick}
use Rattle.standard.specs.Tree.{Trees, nil, ◌⊳◌}
use Rattle.standard.specs.Table.{Node, node_cells, node_at}
use Rattle.judge.specs.Nodes.{held_type, leaf_of, cast_of}
use Rattle.judge.specs.NodeTable.{size_at, Subtrees}
use Rattle.judge.specs.NodeTableLaws.{one_more, next_there}
use Rattle.encoding.specs.Form.{Shape}
use Rattle.encoding.specs.Encoding.{node_count}
use Rattle.node_shape.proofs.ValueLaws.{first, second}
use Rattle.closing.specs.Verdicts.{Verdict, verdict}
use Rattle.closing.specs.Held.{RootsAt, Rooted, top_type, under, fits_from, types_held, pair_held, and_or_held, type_held, base_told, odd_told, size_told, root_held}

-- The loop over a node's children: before child i

pub record Sizing (t : List ℕ) (m children size at i : ℕ) : Type 0 where
  pub counted : i ≤ children
  pub inside : at ≤ m
  pub rooted : Rooted t at
  pub same : fits_from t (children - i) at m size ≡ fits_from t children m m size

-- what is rooted has its newest tree inside, and the rest is rooted too
newest_inside : (t : List ℕ) (at : ℕ) (segwit : Bool) (ts : Trees) → RootsAt segwit t at ts → 1 ≤ at → (size_at t (at - 1) ≤ at) × Rooted t (at - size_at t (at - 1))
newest_inside t at segwit nil r h = let e : ⊥ = omega (arith, r) in absurd e
newest_inside t at segwit (x ⊳ ts) r h =
    (omega (arith, r.0, r.1), record { segwit = segwit; trees = ts; roots = subst (λ (k : ℕ). RootsAt segwit t (at - k) ts) (sym r.1) r.3 })

module _ (t : List ℕ) (m children size : ℕ) where
  module _ {at i : ℕ} (h : Sizing t m children size at i) where
    pub child_inside : 1 ≤ at → (size_at t (at - 1) ≤ at) × Rooted t (at - size_at t (at - 1))
    child_inside some = newest_inside t at h.rooted.segwit h.rooted.trees h.rooted.roots some

    one_child_more : i < children → pick (ltb at 1) false (fits_from t (children - (i + 1)) (under t at) m size) ≡ fits_from t children m m size
    one_child_more more = let e : children - i ≡ suc (children - (i + 1)) = omega arith in sym (ap (λ (k : ℕ). fits_from t k at m size) e) ∙ h.same

    pub sizing_again : {s : ℕ} → i < children → 1 ≤ at → s ≡ size_at t (at - 1) → Sizing t m children size (at - s) (i + 1)
    sizing_again {s} more some e =
        let inside : at ≤ m = h.inside in
        record {
          counted = omega arith;
          inside = omega arith;
          rooted = subst (λ (k : ℕ). Rooted t (at - k)) (sym e) (child_inside some).1;
          same =
              ap (λ (k : ℕ). fits_from t (children - (i + 1)) (at - k) m size) e
              ∙ second (ltb at 1) false (fits_from t (children - (i + 1)) (under t at) m size) refl (le-ltb at 1 some)
              ∙ one_child_more more;
        }

-- The loop over a thresh's children: before child i

pub record Threshing (t : List ℕ) (m n : ℕ) (earlier : Correctness) (at i : ℕ) : Type 0 where
  pub counted : i ≤ n
  pub inside : at ≤ m
  pub waiting : Subtrees (n - i) at t
  pub same : threshold_from i earlier (types_held t (n - i) at) ≡ threshold (types_held t n m)

module _ (t : List ℕ) (m n : ℕ) where
  pub threshing : {earlier : Correctness} → Subtrees n m t → earlier ≡ no_children → Threshing t m n earlier m 0
  unfolding threshold
  threshing {earlier} s e =
      let z : n - 0 ≡ n = omega arith in
      record {
        counted = omega arith;
        inside = omega arith;
        waiting = subst (λ (k : ℕ). Subtrees k m t) (sym z) s;
        same = ap (λ (k : ℕ). threshold_from 0 earlier (types_held t k m)) z ∙ ap (λ (c : Correctness). threshold_from 0 c (types_held t n m)) e;
      }

  module _ {earlier : Correctness} {at i : ℕ} (h : Threshing t m n earlier at i) where
    module _ {x : Correctness} {answer : Typed} (more : i < n) (x-is : x ≡ held_type (node_at t (at - 1))) (judged : answer ≡ threshold_child i earlier x) where
      child_judged : onward answer (λ next. threshold_from (i + 1) next (types_held t (n - (i + 1)) (under t at))) ≡ threshold (types_held t n m)
      child_judged =
          ap (λ (a : Typed). onward a (λ next. threshold_from (i + 1) next (types_held t (n - (i + 1)) (under t at)))) (judged ∙ ap (threshold_child i earlier) x-is)
          ∙ sym (ap (λ (k : ℕ). threshold_from i earlier (types_held t k at)) (one_more n i more))
          ∙ h.same

      pub child_refused : {e : ErrorKind} → answer ≡ Err e → answer ≡ threshold (types_held t n m)
      child_refused p = p ∙ sym (ap (λ (a : Typed). onward a (λ next. threshold_from (i + 1) next (types_held t (n - (i + 1)) (under t at)))) p) ∙ child_judged

      pub threshing_again : {next : Correctness} {s : ℕ} → answer ≡ Ok next → s ≡ size_at t (at - 1) → Threshing t m n next (at - s) (i + 1)
      threshing_again {next} {s} p q =
          let inside : at ≤ m = h.inside in
          record {
            counted = omega arith;
            inside = omega arith;
            waiting = subst (λ (k : ℕ). Subtrees (n - (i + 1)) (at - k) t) (sym q) (next_there t n more h.waiting).3;
            same =
                ap (λ (k : ℕ). threshold_from (i + 1) next (types_held t (n - (i + 1)) (at - k))) q
                ∙ sym (ap (λ (a : Typed). onward a (λ c. threshold_from (i + 1) c (types_held t (n - (i + 1)) (under t at)))) p)
                ∙ child_judged;
          }

    pub thresh_typed : n ≤ i → Ok earlier ≡ threshold (types_held t n m)
    thresh_typed most = let z : n - i ≡ 0 = omega arith in sym (ap (λ (k : ℕ). threshold_from i earlier (types_held t k at)) z) ∙ h.same

-- The type of a node, by its shape

module _ (s : Shape) (n : Node) (t : List ℕ) (m : ℕ) where
  abbrev by_children : ℕ → Typed
  by_children k =
      pick (eqb k 1) (cast_of n.kind (top_type t m))
      (pick (eqb k 2) (pair_held t m n.kind)
      (pick (eqb k 3) (and_or_held t m)
      (Ok (leaf_type (leaf_of n.kind)))))

  pub counts : {r : Typed} → s.counts_children ≡ true → r ≡ threshold (types_held t n.count m) → r ≡ type_held s n t m
  unfolding type_held
  counts h e = e ∙ first s.counts_children (threshold (types_held t n.count m)) (by_children s.children) refl h

  has : {r : Typed} (k : ℕ) → s.counts_children ≡ false → s.children ≡ k → r ≡ by_children k → r ≡ type_held s n t m
  unfolding type_held
  has k h c e =
      e ∙ ap by_children (sym c) ∙ second s.counts_children (threshold (types_held t n.count m)) (by_children s.children) refl h

  pub has_one : {c : Correctness} {r : Typed} → s.counts_children ≡ false → s.children ≡ 1 → c ≡ top_type t m → r ≡ cast_of n.kind c → r ≡ type_held s n t m
  has_one h c x e = has 1 h c (e ∙ ap (cast_of n.kind) x)

  pub has_two : {r : Typed} → s.counts_children ≡ false → s.children ≡ 2 → r ≡ pair_held t m n.kind → r ≡ type_held s n t m
  has_two h c e = has 2 h c e

  pub has_three : {r : Typed} → s.counts_children ≡ false → s.children ≡ 3 → r ≡ and_or_held t m → r ≡ type_held s n t m
  has_three h c e = has 3 h c e

  pub has_none : {l : Leaf} {c : Correctness} → s.counts_children ≡ false → (s.children ≡ 1 → ⊥) → (s.children ≡ 2 → ⊥) → (s.children ≡ 3 → ⊥) → l ≡ leaf_of n.kind → c ≡ leaf_type l → Ok c ≡ type_held s n t m
  has_none h a b d p q =
      has s.children h refl
      (ap Ok (q ∙ ap leaf_type p)
      ∙ second (eqb s.children 3) (and_or_held t m) (Ok (leaf_type (leaf_of n.kind))) refl (ne_eqb s.children 3 d)
      ∙ second (eqb s.children 2) (pair_held t m n.kind) _ refl (ne_eqb s.children 2 b)
      ∙ second (eqb s.children 1) (cast_of n.kind (top_type t m)) _ refl (ne_eqb s.children 1 a))

-- One root

module _ (table : List ℕ) where
  pub no_node : {v : Verdict} → node_count table < 1 → v ≡ verdict 21 0 → v ≡ root_held table
  unfolding root_held
  no_node h e = e ∙ first (ltb (node_count table) 1) (verdict 21 0) (size_told table) refl (lt-ltb (node_count table) 1 h)

  some_node : 1 ≤ node_count table → (size_told table) ≡ root_held table
  unfolding root_held
  some_node h = second (ltb (node_count table) 1) (verdict 21 0) (size_told table) refl (le-ltb (node_count table) 1 h)

  module _ (some : 1 ≤ node_count table) {s : ℕ} (s-is : s ≡ size_at table (node_count table - 1)) where
    pub more_roots : {v : Verdict} → (s ≡ node_count table → ⊥) → v ≡ verdict 21 0 → v ≡ root_held table
    more_roots h e =
        e
        ∙ second (eqb (size_at table (node_count table - 1)) (node_count table)) (odd_told table) (verdict 21 0) refl
        (ne_eqb (size_at table (node_count table - 1)) (node_count table) (λ q. h (s-is ∙ q)))
        ∙ some_node some

    module _ (one : s ≡ node_count table) where
      one_root : (odd_told table) ≡ root_held table
      one_root =
          first (eqb (size_at table (node_count table - 1)) (node_count table)) (odd_told table) (verdict 21 0) refl
          (eq-eqb (size_at table (node_count table - 1)) (node_count table) (sym s-is ∙ one))
          ∙ some_node some

      pub numbers_behind : {v : Verdict} → (length table % node_cells ≡ 0 → ⊥) → v ≡ verdict 21 0 → v ≡ root_held table
      numbers_behind h e = e ∙ second (eqb (length table % node_cells) 0) (base_told table) (verdict 21 0) refl (ne_eqb (length table % node_cells) 0 h) ∙ one_root

      module _ (whole : length table % node_cells ≡ 0) {c : Correctness} {b : Bool} (c-is : c ≡ top_type table (node_count table)) (b-is : b ≡ is_b c.base) where
        base_tested : b ≡ is_b (top_type table (node_count table)).base
        base_tested = b-is ∙ ap (λ (x : Correctness). is_b x.base) c-is

        nothing_behind : (base_told table) ≡ root_held table
        nothing_behind = first (eqb (length table % node_cells) 0) (base_told table) (verdict 21 0) refl (eq-eqb (length table % node_cells) 0 whole) ∙ one_root

        pub not_b : {v : Verdict} → not b ≡ true → v ≡ verdict 19 0 → v ≡ root_held table
        not_b h e = e ∙ second (is_b (top_type table (node_count table)).base) (verdict 0 0) (verdict 19 0) base_tested (not-true b h) ∙ nothing_behind

        pub is_b_lem : {v : Verdict} → not b ≡ false → v ≡ verdict 0 0 → v ≡ root_held table
        is_b_lem h e = e ∙ first (is_b (top_type table (node_count table)).base) (verdict 0 0) (verdict 19 0) base_tested (not-false b h) ∙ nothing_behind
