-- A reduction on the nodes of finished trees is the rule of the new tree: it makes a node of the tree's type and size, or has the tree's reason. One law for the wrappers, one for the combinations, one each for and_or and thresh. Assumes nothing.
-- Why: each child on the list is the root of a finished tree, whose node holds that tree's type and size.
use Rattle.std.specs.Prelude.{◌≡◌, refl, Bool}
use Rattle.std.proofs.Common.{sym, ◌∙◌, add-zero}
use Rattle.std.proofs.Math.Path.{ap}
use mathlib.Core.List.{List, ◌∷◌}
use Prim.Native.Nat.{ℕ, suc, ◌+◌}
use native.Mathlib.Omega.{arith}
use Rattle.correctness.specs.declared.Correctness.{Correctness}
use Rattle.correctness.specs.Typed.{Typed}
use Rattle.std.specs.Prelude.{Ok, Err}
use Rattle.correctness.specs.Rules as rules
use Rattle.correctness.specs.Rules.{onward, no_children, threshold_child, threshold_from, threshold}
use Rattle.standard.specs.Tree as tree
use Rattle.standard.specs.Tree.{Wrapper, alt, swap, check, dupIf, verify, nonZero, zeroNotEqual, Combination, and_v, and_b, or_b, or_d, or_c, or_i, Tree, Trees, leaf, wrap, join, and_or, thresh, nil, ◌⊳◌, ◌⊕◌, many, size, sizes, key_counts}
use Rattle.standard.specs.Types.{typed_leaf, wrapper_rule, combination_rule, AllTyped, all, and_then, ruled, type_of, types_of}
use Rattle.standard.specs.Table.{Node, node, wrapper_kind, combination_kind, and_or_kind, thresh_kind}
use Rattle.standard.specs.Table as table
use Rattle.judge.specs.Nodes.{held_type, top_node, under_top, leaf_of, cast_of, combination_of, Making, making, parent, reduce_one, reduce_two, reduce_three, reduce_children, reduce_many}
use Rattle.forest.specs.Forest.{preorders, HasType, AllHaveTypes, types_given}
use Rattle.forest.proofs.PreorderLaws.{top_size, top_type_lem, under_root}

-- The rule of a kind, by its number

pub leaf_kind_lem : (l : tree.Leaf) → leaf_of (table.leaf_kind l) ≡ typed_leaf l
unfolding leaf_of
leaf_kind_lem tree.True = refl
leaf_kind_lem tree.False = refl
leaf_kind_lem (tree.PkK k) = refl
leaf_kind_lem (tree.RawPkH d) = refl
leaf_kind_lem (tree.After n) = refl
leaf_kind_lem (tree.Older n) = refl
leaf_kind_lem (tree.HashLock tree.sha256 d) = refl
leaf_kind_lem (tree.HashLock tree.hash256 d) = refl
leaf_kind_lem (tree.HashLock tree.ripemd160 d) = refl
leaf_kind_lem (tree.HashLock tree.hash160 d) = refl
leaf_kind_lem (tree.Multi k ks) = refl
leaf_kind_lem (tree.MultiA k d ds) = refl

pub wrapper_kind_lem : (segwit : Bool) (w : Wrapper) (c : Correctness) → cast_of (wrapper_kind w) c ≡ wrapper_rule segwit w c
unfolding cast_of
wrapper_kind_lem segwit alt c = refl
wrapper_kind_lem segwit swap c = refl
wrapper_kind_lem segwit check c = refl
wrapper_kind_lem segwit dupIf c = refl
wrapper_kind_lem segwit verify c = refl
wrapper_kind_lem segwit nonZero c = refl
wrapper_kind_lem segwit zeroNotEqual c = refl

pub combination_kind_lem : (k : Combination) (a b : Correctness) → combination_of (combination_kind k) a b ≡ combination_rule k a b
unfolding combination_of
combination_kind_lem and_v a b = refl
combination_kind_lem and_b a b = refl
combination_kind_lem or_b a b = refl
combination_kind_lem or_d a b = refl
combination_kind_lem or_c a b = refl
combination_kind_lem or_i a b = refl

-- Answers

making_same : (o : Typed) (f g : Correctness → Making) → ((c : Correctness) → f c ≡ g c) → making o f ≡ making o g
making_same (Ok c) f g e = e c
making_same (Err e') f g e = refl

making_onward : (o : Typed) (rule : Correctness → Typed) (f : Correctness → Making) → making (onward o rule) f ≡ making o (λ c. making (rule c) f)
making_onward (Ok c) rule f = refl
making_onward (Err e) rule f = refl

-- The types of several trees

pub all_typed : (segwit : Bool) (ts : Trees) (h : AllHaveTypes segwit ts) → types_of segwit ts ≡ all (types_given segwit ts h)
all_typed segwit nil h = refl
all_typed segwit (t ⊳ ts) h =
    ap (λ (o : Typed). and_then o (types_of segwit ts)) h.0.1 ∙ ap (and_then (Ok h.0.0)) (all_typed segwit ts h.1)

module _ (segwit : Bool) (before : ℕ) where
  -- one child
  pub reduce_wrap : (w : Wrapper) (x : Tree) (done : Trees) → HasType segwit x
      → reduce_one (wrapper_kind w) (preorders segwit before (x ⊳ done)) ≡ making (type_of segwit (wrap w x)) (parent (wrapper_kind w) 0 0 (size (wrap w x)))
  unfolding reduce_one
  reduce_wrap w x done h =
      let ns : List Node = preorders segwit before (x ⊳ done) in
      let c : Correctness = h.0 in
      ap (λ (a : Correctness). making (cast_of (wrapper_kind w) a) (parent (wrapper_kind w) 0 0 ((top_node ns).size + 1))) (top_type_lem segwit before x done h.1)
      ∙ ap (λ (k : ℕ). making (cast_of (wrapper_kind w) c) (parent (wrapper_kind w) 0 0 (k + 1))) (top_size segwit before x done)
      ∙ ap (λ (o : Typed). making o (parent (wrapper_kind w) 0 0 (size x + 1))) (wrapper_kind_lem segwit w c ∙ ap (λ (o : Typed). onward o (wrapper_rule segwit w)) (sym h.1))

  -- two children
  pub reduce_join : (k : Combination) (x y : Tree) (done : Trees) → HasType segwit x → HasType segwit y
      → reduce_two (combination_kind k) (preorders segwit before (x ⊳ (y ⊳ done))) ≡ making (type_of segwit (join k x y)) (parent (combination_kind k) 0 0 (size (join k x y)))
  unfolding reduce_two
  reduce_join k x y done g h =
      let ns : List Node = preorders segwit before (x ⊳ (y ⊳ done)) in
      let a : Correctness = g.0 in
      let b : Correctness = h.0 in
      let said : Correctness → ℕ → Correctness → ℕ → Making = λ a p b q. making (combination_of (combination_kind k) a b) (parent (combination_kind k) 0 0 (p + q + 1)) in
      ap (λ (ms : List Node). said (held_type (top_node ns)) (top_node ns).size (held_type (top_node ms)) (top_node ms).size) (under_root segwit before x (y ⊳ done))
      ∙ ap (λ (c : Correctness). said c (top_node ns).size (held_type (top_node (preorders segwit before (y ⊳ done)))) (top_node (preorders segwit before (y ⊳ done))).size) (top_type_lem segwit before x (y ⊳ done) g.1)
      ∙ ap (λ (p : ℕ). said a p (held_type (top_node (preorders segwit before (y ⊳ done)))) (top_node (preorders segwit before (y ⊳ done))).size) (top_size segwit before x (y ⊳ done))
      ∙ ap (λ (c : Correctness). said a (size x) c (top_node (preorders segwit before (y ⊳ done))).size) (top_type_lem segwit before y done h.1)
      ∙ ap (λ (q : ℕ). said a (size x) b q) (top_size segwit before y done)
      ∙ ap (λ (o : Typed). making o (parent (combination_kind k) 0 0 (size x + size y + 1)))
      (combination_kind_lem k a b
      ∙ ap (λ (o : Typed). onward o (λ d. combination_rule k a d)) (sym h.1)
      ∙ ap (λ (o : Typed). onward o (λ c. onward (type_of segwit y) (λ d. combination_rule k c d))) (sym g.1))

  -- and_or, whose script order is X, Z, Y
  pub reduce_and_or : (x y z : Tree) (done : Trees) → HasType segwit x → HasType segwit y → HasType segwit z
      → reduce_three (preorders segwit before (x ⊳ (z ⊳ (y ⊳ done)))) ≡ making (type_of segwit (and_or x y z)) (parent and_or_kind 0 0 (size (and_or x y z)))
  unfolding reduce_three
  reduce_and_or x y z done f g h =
      let ns : List Node = preorders segwit before (x ⊳ (z ⊳ (y ⊳ done))) in
      let z-first : List Node = preorders segwit before (z ⊳ (y ⊳ done)) in
      let y-first : List Node = preorders segwit before (y ⊳ done) in
      let said : Correctness → ℕ → Correctness → ℕ → Correctness → ℕ → Making = λ a p b q c r. making (rules.and_or a b c) (parent and_or_kind 0 0 (p + q + r + 1)) in
      let on : List Node → List Node → List Node → Making = λ l m n. said (held_type (top_node l)) (top_node l).size (held_type (top_node m)) (top_node m).size (held_type (top_node n)) (top_node n).size in
      ap (λ (ms : List Node). on ns (under_top ms) ms) (under_root segwit before x (z ⊳ (y ⊳ done)))
      ∙ ap (λ (ms : List Node). on ns ms z-first) (under_root segwit before z (y ⊳ done))
      ∙ ap (λ (a : Correctness). said a (top_node ns).size (held_type (top_node y-first)) (top_node y-first).size (held_type (top_node z-first)) (top_node z-first).size) (top_type_lem segwit before x (z ⊳ (y ⊳ done)) f.1)
      ∙ ap (λ (p : ℕ). said f.0 p (held_type (top_node y-first)) (top_node y-first).size (held_type (top_node z-first)) (top_node z-first).size) (top_size segwit before x (z ⊳ (y ⊳ done)))
      ∙ ap (λ (b : Correctness). said f.0 (size x) b (top_node y-first).size (held_type (top_node z-first)) (top_node z-first).size) (top_type_lem segwit before y done g.1)
      ∙ ap (λ (q : ℕ). said f.0 (size x) g.0 q (held_type (top_node z-first)) (top_node z-first).size) (top_size segwit before y done)
      ∙ ap (λ (c : Correctness). said f.0 (size x) g.0 (size y) c (top_node z-first).size) (top_type_lem segwit before z (y ⊳ done) h.1)
      ∙ ap (λ (r : ℕ). said f.0 (size x) g.0 (size y) h.0 r) (top_size segwit before z (y ⊳ done))
      ∙ ap (λ (o : Typed). making o (parent and_or_kind 0 0 (size x + size y + size z + 1)))
      (ap (λ (o : Typed). onward o (λ c. rules.and_or f.0 g.0 c)) (sym h.1)
      ∙ ap (λ (o : Typed). onward o (λ b. onward (type_of segwit z) (λ c. rules.and_or f.0 b c))) (sym g.1)
      ∙ ap (λ (o : Typed). onward o (λ a. onward (type_of segwit y) (λ b. onward (type_of segwit z) (λ c. rules.and_or a b c)))) (sym f.1))

  -- the children of a thresh from number i on
  reduce_children_lem : (k n i : ℕ) (earlier : Correctness) (sum : ℕ) (ts done : Trees) (h : AllHaveTypes segwit ts)
      → reduce_children k n (many ts) i earlier sum (preorders segwit before (◌⊕◌ ts done)) ≡ making (threshold_from i earlier (types_given segwit ts h)) (parent thresh_kind k n (sum + sizes ts + 1))
  reduce_children_lem k n i earlier sum nil done h = ap (λ (s : ℕ). parent thresh_kind k n (s + 1) earlier) (sym (add-zero sum))
  reduce_children_lem k n i earlier sum (t ⊳ ts) done h =
      let ns : List Node = preorders segwit before (t ⊳ (◌⊕◌ ts done)) in
      let c : Correctness = h.0.0 in
      let further : ℕ → List Node → Correctness → Making = λ s ms next. reduce_children k n (many ts) (i + 1) next (sum + s) ms in
      let e : sum + size t + sizes ts + 1 ≡ sum + (size t + sizes ts) + 1 = omega arith in
      ap (λ (a : Correctness). making (threshold_child i earlier a) (further (top_node ns).size (under_top ns))) (top_type_lem segwit before t (◌⊕◌ ts done) h.0.1)
      ∙ ap (λ (s : ℕ). making (threshold_child i earlier c) (further s (under_top ns))) (top_size segwit before t (◌⊕◌ ts done))
      ∙ ap (λ (ms : List Node). making (threshold_child i earlier c) (further (size t) ms)) (under_root segwit before t (◌⊕◌ ts done))
      ∙ making_same (threshold_child i earlier c) (further (size t) (preorders segwit before (◌⊕◌ ts done)))
      (λ next. making (threshold_from (i + 1) next (types_given segwit ts h.1)) (parent thresh_kind k n (sum + (size t + sizes ts) + 1)))
      (λ next.
      reduce_children_lem k n (i + 1) next (sum + size t) ts done h.1
      ∙ ap (λ (s : ℕ). making (threshold_from (i + 1) next (types_given segwit ts h.1)) (parent thresh_kind k n s)) e)
      ∙ sym (making_onward (threshold_child i earlier c) (λ next. threshold_from (i + 1) next (types_given segwit ts h.1)) (parent thresh_kind k n (sum + (size t + sizes ts) + 1)))

  -- thresh
  pub reduce_thresh : (k : ℕ) (x : Tree) (xs done : Trees) → HasType segwit x → AllHaveTypes segwit xs
      → reduce_many k (suc (many xs)) (preorders segwit before (x ⊳ (◌⊕◌ xs done))) ≡ making (type_of segwit (thresh k x xs)) (parent thresh_kind k (suc (many xs)) (size (thresh k x xs)))
  unfolding reduce_many threshold
  reduce_thresh k x xs done g h =
      let cs : List Correctness = types_given segwit xs h in
      let e : 0 + (size x + sizes xs) + 1 ≡ size x + sizes xs + 1 = omega arith in
      reduce_children_lem k (suc (many xs)) 0 no_children 0 (x ⊳ xs) done (g, h)
      ∙ ap (λ (s : ℕ). making (threshold (g.0 ∷ cs)) (parent thresh_kind k (suc (many xs)) s)) e
      ∙ ap (λ (o : Typed). making o (parent thresh_kind k (suc (many xs)) (size x + sizes xs + 1)))
      (ap (λ (a : AllTyped). ruled a threshold) (sym (all_typed segwit (x ⊳ xs) (g, h))))
