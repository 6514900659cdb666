-- The preorder of the finished trees: it is the node table read backwards; its length is the trees' size; its first node is the newest root, and under that tree lie the nodes of the others; and a new root stands before its children's nodes. Assumes nothing.
use Rattle.std.specs.Prelude.{◌≡◌, refl, Bool, ℕ, ◌+◌, length, drop}
use Rattle.std.proofs.Common.{sym, ap, ◌∙◌, add-zero, arith, length-append, drop_at}
use mathlib.Core.List.{List, [], ◌∷◌, ◌++◌, append_assoc, append-nil, reverse, reverse-append}
use Rattle.base_input.specs.declared.Base.{Base}
use Rattle.base_input.specs.declared.Input.{Input}
use Rattle.base_input.specs.Numbers.{base_number, input_number, bool_number, base_of, input_of, bool_of}
use Rattle.base_input.specs.NumberLaws.{base_of_its_number, input_of_its_number, bool_of_its_number}
use Rattle.correctness.specs.declared.Correctness.{Correctness}
use Rattle.correctness.specs.Typed.{Typed}
use Rattle.std.specs.Prelude.{Ok, Err}
use Rattle.correctness.specs.Rules.{made}
use Rattle.standard.specs.Tree.{True, False, PkK, RawPkH, After, Older, HashLock, Multi, MultiA, Tree, Trees, leaf, wrap, join, and_or, thresh, nil, ◌⊳◌, ◌⊕◌, size, sizes, key_count, key_counts}
use Rattle.standard.proofs.TreeLaws.{keys_append}
use Rattle.standard.specs.Types.{type_of}
use Rattle.standard.specs.Table.{Node, node, root_node, nodes_of, nodes_from}
use Rattle.judge.specs.Nodes.{held_type, top_node, under_top}
use Rattle.forest.specs.Forest.{children, preorder, preorders, kind_of, number_of, count_of, place_of}

-- The node of a root

pub root_node_lem : (segwit : Bool) (t : Tree) (before : ℕ) → root_node segwit t before ≡ node (kind_of t) (number_of t) (count_of t) (place_of t before) (size t) (type_of segwit t)
root_node_lem segwit (leaf True) before = refl
root_node_lem segwit (leaf False) before = refl
root_node_lem segwit (leaf (PkK k)) before = refl
root_node_lem segwit (leaf (RawPkH d)) before = refl
root_node_lem segwit (leaf (After n)) before = refl
root_node_lem segwit (leaf (Older n)) before = refl
root_node_lem segwit (leaf (HashLock h d)) before = refl
root_node_lem segwit (leaf (Multi k ks)) before = refl
root_node_lem segwit (leaf (MultiA k d ds)) before = refl
root_node_lem segwit (wrap w x) before = refl
root_node_lem segwit (join c x y) before = refl
root_node_lem segwit (and_or x y z) before = refl
root_node_lem segwit (thresh k x xs) before = refl

-- nine numbers hold the size and the type
node_size : (kind number count place size : ℕ) (o : Typed) → (node kind number count place size o).size ≡ size
node_size kind number count place size (Ok c) = refl
node_size kind number count place size (Err e) = refl

pub held_back : (c : Correctness) → made (base_of (base_number c.base)) (input_of (input_number c.input)) (bool_of (bool_number c.dissatisfiable)) (bool_of (bool_number c.unit)) ≡ c
held_back c =
    ap (λ (b : Base). made b (input_of (input_number c.input)) (bool_of (bool_number c.dissatisfiable)) (bool_of (bool_number c.unit))) (base_of_its_number c.base)
    ∙ ap (λ (i : Input). made c.base i (bool_of (bool_number c.dissatisfiable)) (bool_of (bool_number c.unit))) (input_of_its_number c.input)
    ∙ ap (λ (d : Bool). made c.base c.input d (bool_of (bool_number c.unit))) (bool_of_its_number c.dissatisfiable)
    ∙ ap (λ (u : Bool). made c.base c.input c.dissatisfiable u) (bool_of_its_number c.unit)

pub root_size : (segwit : Bool) (t : Tree) (before : ℕ) → (root_node segwit t before).size ≡ size t
root_size segwit t before =
    ap (λ (n : Node). n.size) (root_node_lem segwit t before) ∙ node_size (kind_of t) (number_of t) (count_of t) (place_of t before) (size t) (type_of segwit t)

pub root_type : (segwit : Bool) (t : Tree) (before : ℕ) {c : Correctness} → type_of segwit t ≡ Ok c → held_type (root_node segwit t before) ≡ c
root_type segwit t before {c} e =
    ap held_type (root_node_lem segwit t before)
    ∙ ap (λ (o : Typed). held_type (node (kind_of t) (number_of t) (count_of t) (place_of t before) (size t) o)) e
    ∙ held_back c

-- The preorder of several trees

module _ (segwit : Bool) where
  pub preorders_append : (before : ℕ) (ts more : Trees) → preorders segwit before (◌⊕◌ ts more) ≡ preorders segwit (before + key_counts more) ts ++ preorders segwit before more
  preorders_append before nil more = refl
  preorders_append before (t ⊳ ts) more =
      let e : before + key_counts (◌⊕◌ ts more) ≡ before + key_counts more + key_counts ts = omega (arith, keys_append ts more) in
      ap (λ (k : ℕ). preorder segwit k t ++ preorders segwit before (◌⊕◌ ts more)) e
      ∙ ap (λ (l : List Node). preorder segwit (before + key_counts more + key_counts ts) t ++ l) (preorders_append before ts more)
      ∙ sym (append_assoc (preorder segwit (before + key_counts more + key_counts ts) t) (preorders segwit (before + key_counts more) ts) (preorders segwit before more))

  -- one tree alone
  preorder_alone : (before : ℕ) (t : Tree) → preorders segwit before (t ⊳ nil) ≡ preorder segwit before t
  preorder_alone before t = append-nil (preorder segwit (before + 0) t) ∙ ap (λ (k : ℕ). preorder segwit k t) (add-zero before)

  preorder_first : (before : ℕ) (t : Tree) (ts : Trees) {k : ℕ} → key_counts ts ≡ k → preorders segwit before (t ⊳ ts) ≡ preorder segwit (before + k) t ++ preorders segwit before ts
  preorder_first before t ts e = ap (λ (k : ℕ). preorder segwit (before + k) t ++ preorders segwit before ts) e

  -- a root, and then its children
  pub root_first : (before : ℕ) (t : Tree) → preorder segwit before t ≡ root_node segwit t before ∷ preorders segwit before (children t)
  root_first before (leaf l) = refl
  root_first before (wrap w x) = ap (λ (l : List Node). root_node segwit (wrap w x) before ∷ l) (sym (preorder_alone before x))
  root_first before (join c x y) =
      ap (λ (l : List Node). root_node segwit (join c x y) before ∷ l)
      (sym (preorder_first before x (y ⊳ nil) (add-zero (key_count y)) ∙ ap (λ (l : List Node). preorder segwit (before + key_count y) x ++ l) (preorder_alone before y)))
  root_first before (and_or x y z) =
      let e : before + key_counts (z ⊳ (y ⊳ nil)) ≡ before + key_count y + key_count z = omega arith in
      ap (λ (l : List Node). root_node segwit (and_or x y z) before ∷ l)
      (sym
      (ap (λ (k : ℕ). preorder segwit k x ++ preorders segwit before (z ⊳ (y ⊳ nil))) e
      ∙ ap (λ (l : List Node). preorder segwit (before + key_count y + key_count z) x ++ l)
      (preorder_first before z (y ⊳ nil) (add-zero (key_count y)) ∙ ap (λ (l : List Node). preorder segwit (before + key_count y) z ++ l) (preorder_alone before y))))
  root_first before (thresh k x xs) = refl

  -- a new tree over the finished ones: its root before the nodes of its children and of the others
  pub new_root : (before : ℕ) (t : Tree) (done : Trees) → preorders segwit before (t ⊳ done) ≡ root_node segwit t (before + key_counts done) ∷ preorders segwit before (◌⊕◌ (children t) done)
  new_root before t done =
      ap (λ (l : List Node). l ++ preorders segwit before done) (root_first (before + key_counts done) t)
      ∙ ap (λ (l : List Node). root_node segwit t (before + key_counts done) ∷ l) (sym (preorders_append before (children t) done))

  -- The length, the top, and what lies under it

  mutual
    pub preorder_length : (before : ℕ) (t : Tree) → length (preorder segwit before t) ≡ size t
    preorder_length before (leaf l) = refl
    preorder_length before (wrap w x) = omega (arith, preorder_length before x)
    preorder_length before (join c x y) =
        omega (arith, length-append (preorder segwit (before + key_count y) x) (preorder segwit before y), preorder_length (before + key_count y) x, preorder_length before y)
    preorder_length before (and_or x y z) =
        omega (
          arith,
          length-append (preorder segwit (before + key_count y + key_count z) x) (preorder segwit (before + key_count y) z ++ preorder segwit before y),
          length-append (preorder segwit (before + key_count y) z) (preorder segwit before y),
          preorder_length (before + key_count y + key_count z) x,
          preorder_length (before + key_count y) z,
          preorder_length before y,
        )
    preorder_length before (thresh k x xs) =
        omega (arith, length-append (preorder segwit (before + key_counts xs) x) (preorders segwit before xs), preorder_length (before + key_counts xs) x, preorders_length before xs)

    pub preorders_length : (before : ℕ) (ts : Trees) → length (preorders segwit before ts) ≡ sizes ts
    preorders_length before nil = refl
    preorders_length before (t ⊳ ts) =
        omega (arith, length-append (preorder segwit (before + key_counts ts) t) (preorders segwit before ts), preorder_length (before + key_counts ts) t, preorders_length before ts)

  module _ (before : ℕ) (t : Tree) (done : Trees) where
    pub top_root : top_node (preorders segwit before (t ⊳ done)) ≡ root_node segwit t (before + key_counts done)
    top_root = ap top_node (new_root before t done)

    pub top_size : (top_node (preorders segwit before (t ⊳ done))).size ≡ size t
    top_size = ap (λ (n : Node). n.size) top_root ∙ root_size segwit t (before + key_counts done)

    pub top_type_lem : {c : Correctness} → type_of segwit t ≡ Ok c → held_type (top_node (preorders segwit before (t ⊳ done))) ≡ c
    top_type_lem e = ap held_type top_root ∙ root_type segwit t (before + key_counts done) e

    pub under_root : under_top (preorders segwit before (t ⊳ done)) ≡ preorders segwit before done
    under_root =
        ap (λ (k : ℕ). drop k (preorders segwit before (t ⊳ done))) top_size
        ∙ drop_at (preorder segwit (before + key_counts done) t) (preorders segwit before done) (size t) (preorder_length (before + key_counts done) t)

  -- The node table, read backwards

  mutual
    pub preorder_reversed : (before : ℕ) (t : Tree) → reverse (nodes_of segwit before t) ≡ preorder segwit before t
    preorder_reversed before (leaf l) = refl
    preorder_reversed before (wrap w x) =
        reverse-append (nodes_of segwit before x) (root_node segwit (wrap w x) before ∷ [])
        ∙ ap (λ (l : List Node). root_node segwit (wrap w x) before ∷ l) (preorder_reversed before x)
    preorder_reversed before (join c x y) =
        let root : Node = root_node segwit (join c x y) before in
        let first : List Node = nodes_of segwit (before + key_count y) x in
        reverse-append (nodes_of segwit before y) (first ++ (root ∷ []))
        ∙ ap (λ (l : List Node). l ++ reverse (nodes_of segwit before y)) (reverse-append first (root ∷ []))
        ∙ ap (λ (l : List Node). root ∷ (l ++ reverse (nodes_of segwit before y))) (preorder_reversed (before + key_count y) x)
        ∙ ap (λ (l : List Node). root ∷ (preorder segwit (before + key_count y) x ++ l)) (preorder_reversed before y)
    preorder_reversed before (and_or x y z) =
        let root : Node = root_node segwit (and_or x y z) before in
        let first : List Node = nodes_of segwit (before + key_count y + key_count z) x in
        let last : List Node = nodes_of segwit (before + key_count y) z in
        let other : List Node = nodes_of segwit before y in
        reverse-append other (last ++ (first ++ (root ∷ [])))
        ∙ ap (λ (l : List Node). l ++ reverse other) (reverse-append last (first ++ (root ∷ [])) ∙ ap (λ (l : List Node). l ++ reverse last) (reverse-append first (root ∷ [])))
        ∙ ap (λ (l : List Node). root ∷ l) (append_assoc (reverse first) (reverse last) (reverse other))
        ∙ ap (λ (l : List Node). root ∷ (l ++ (reverse last ++ reverse other))) (preorder_reversed (before + key_count y + key_count z) x)
        ∙ ap (λ (l : List Node). root ∷ (preorder segwit (before + key_count y + key_count z) x ++ (l ++ reverse other))) (preorder_reversed (before + key_count y) z)
        ∙ ap (λ (l : List Node). root ∷ (preorder segwit (before + key_count y + key_count z) x ++ (preorder segwit (before + key_count y) z ++ l))) (preorder_reversed before y)
    preorder_reversed before (thresh k x xs) =
        let root : Node = root_node segwit (thresh k x xs) before in
        let first : List Node = nodes_of segwit (before + key_counts xs) x in
        reverse-append (nodes_from segwit before xs) (first ++ (root ∷ []))
        ∙ ap (λ (l : List Node). l ++ reverse (nodes_from segwit before xs)) (reverse-append first (root ∷ []))
        ∙ ap (λ (l : List Node). root ∷ (l ++ reverse (nodes_from segwit before xs))) (preorder_reversed (before + key_counts xs) x)
        ∙ ap (λ (l : List Node). root ∷ (preorder segwit (before + key_counts xs) x ++ l)) (preorders_reversed before xs)

    pub preorders_reversed : (before : ℕ) (ts : Trees) → reverse (nodes_from segwit before ts) ≡ preorders segwit before ts
    preorders_reversed before nil = refl
    preorders_reversed before (t ⊳ ts) =
        reverse-append (nodes_from segwit before ts) (nodes_of segwit (before + key_counts ts) t)
        ∙ ap (λ (l : List Node). l ++ reverse (nodes_from segwit before ts)) (preorder_reversed (before + key_counts ts) t)
        ∙ ap (λ (l : List Node). preorder segwit (before + key_counts ts) t ++ l) (preorders_reversed before ts)
