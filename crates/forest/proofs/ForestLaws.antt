-- Lists of nodes and keys that are those of finished trees: they stay so when a node is made, and what is said of a node on lists is what is said of its tree. One law for the leaves, the wrappers, the combinations, and_or and thresh each. Assumes nothing.
use Rattle.std.specs.Prelude.{◌≡◌, refl, Bool, true, false, List, [], ◌∷◌, ◌++◌, ℕ, zero, suc, ◌≤◌, length}
use Rattle.std.proofs.Common.{sym, ap, subst, ◌∙◌, append-nil, zero-add, arith}
use Rattle.tables.specs.Choose.{pick}
use Rattle.correctness.specs.declared.Leaf as correctness
use Rattle.correctness.specs.Typed.{Typed}
use Rattle.std.specs.Prelude.{Ok, Err}
use Rattle.correctness.specs.Rules.{leaf_type}
use Rattle.standard.specs.Tree.{Leaf, Wrapper, Combination, Tree, Trees, leaf, wrap, join, and_or, thresh, nil, ◌⊳◌, ◌⊕◌, many, size, sizes, key_counts}
use Rattle.standard.specs.Allowed.{allowed_leaf, leaf_refusal, thresh_allowed}
use Rattle.standard.specs.Types.{typed_leaf, type_of, passes, fails, by_rule, judge}
use Rattle.standard.specs.Table.{Node, node, leaf_kind, wrapper_kind, combination_kind, leaf_offsets, root_node}
use Rattle.standard.proofs.TableLaws.{key_table_length}
use Rattle.judge.specs.Nodes.{held_type, top_node, new_leaf, Making, making, parent, reduce_one, reduce_two, reduce_three, reduce_many}
use Rattle.forest.specs.Forest.{children, preorders, leaf_number, leaf_count, leaf_place, kind_of, number_of, count_of, place_of, own_keys, HasType, AllHaveTypes, Forest, Agrees}
use Rattle.forest.proofs.PreorderLaws.{root_node_lem, new_root, preorders_length, top_type_lem}
use Rattle.forest.proofs.KeyLaws.{new_keys}
use Rattle.forest.proofs.ReductionLaws.{leaf_kind_lem, reduce_wrap, reduce_join, reduce_and_or, reduce_thresh}

-- the first n trees of a stack, and the rest
pub split : (n : ℕ) (ts : Trees) → n ≤ many ts → (xs : Trees) × (rest : Trees) × (many xs ≡ n) × (ts ≡ ◌⊕◌ xs rest)
split zero ts h = (nil, ts, refl, refl)
split (suc n) nil h = let e : ⊥ = omega arith in absurd e
split (suc n) (t ⊳ ts) h = let s = split n ts (omega arith) in (t ⊳ s.0, s.1, ap suc s.2, ap (λ (l : Trees). t ⊳ l) s.3)

pub types_under : (segwit : Bool) (ts more : Trees) → AllHaveTypes segwit (◌⊕◌ ts more) → AllHaveTypes segwit more
types_under segwit nil more h = h
types_under segwit (t ⊳ ts) more h = types_under segwit ts more h.1

pub types_over : (segwit : Bool) (ts more : Trees) → AllHaveTypes segwit (◌⊕◌ ts more) → AllHaveTypes segwit ts
types_over segwit nil more h = tt
types_over segwit (t ⊳ ts) more h = (h.0, types_over segwit ts more h.1)

-- a leaf's node on lists is its root
pub leaf_root : (segwit : Bool) (l : Leaf) (before : ℕ) → new_leaf (leaf_kind l) (leaf_number l) (leaf_count l) (leaf_place l before) ≡ root_node segwit (leaf l) before
unfolding new_leaf
leaf_root segwit l before =
    ap (λ (x : correctness.Leaf). node (leaf_kind l) (leaf_number l) (leaf_count l) (leaf_place l before) 1 (Ok (leaf_type x))) (leaf_kind_lem l)
    ∙ sym (root_node_lem segwit (leaf l) before)

module _ (segwit : Bool) where
  -- nothing is finished at the start
  pub forest_empty : Forest segwit [] [] nil
  forest_empty = record { nodes_are = refl; keys_are = refl; types = tt }

  module _ {nodes : List Node} {keys : List ℕ} {done : Trees} (h : Forest segwit nodes keys done) where
    -- how many nodes and keys there are
    pub nodes_counted : length nodes ≡ sizes done
    nodes_counted = ap length h.nodes_are ∙ preorders_length segwit 0 done

    pub keys_counted : length keys ≡ key_counts done
    keys_counted = ap length h.keys_are ∙ key_table_length done

  -- the newest tree's type
  pub forest_top : {nodes : List Node} {keys : List ℕ} (t : Tree) (done : Trees) → Forest segwit nodes keys (t ⊳ done) → type_of segwit t ≡ Ok (held_type (top_node nodes))
  forest_top t done h =
      h.types.0.1 ∙ ap Ok (sym (ap (λ (ns : List Node). held_type (top_node ns)) h.nodes_are ∙ top_type_lem segwit 0 t done h.types.0.1))

  module _ {nodes : List Node} {keys : List ℕ} (t : Tree) (done : Trees) (h : Forest segwit nodes keys (◌⊕◌ (children t) done)) where
    -- a new tree takes its children's place
    pub forest_grows : HasType segwit t → Forest segwit (root_node segwit t (key_counts done) ∷ nodes) (keys ++ own_keys t) (t ⊳ done)
    forest_grows typed =
        record {
          nodes_are =
              ap (λ (ns : List Node). root_node segwit t (key_counts done) ∷ ns) h.nodes_are
              ∙ ap (λ (k : ℕ). root_node segwit t k ∷ preorders segwit 0 (◌⊕◌ (children t) done)) (sym (zero-add (key_counts done)))
              ∙ sym (new_root segwit 0 t done);
          keys_are = ap (λ (ks : List ℕ). ks ++ own_keys t) h.keys_are ∙ sym (new_keys t done);
          types = (typed, types_under segwit (children t) done h.types);
        }

    module _ (rule-alone : judge segwit t ≡ by_rule (type_of segwit t)) (no_place : place_of t (key_counts done) ≡ 0) (no_keys : own_keys t ≡ []) where
      rule_agrees : (o : Typed) → type_of segwit t ≡ o → Agrees segwit nodes keys done t (making o (parent (kind_of t) (number_of t) (count_of t) (size t)))
      rule_agrees (Ok c) e =
          let root : root_node segwit t (key_counts done) ≡ node (kind_of t) (number_of t) (count_of t) 0 (size t) (Ok c) =
          root_node_lem segwit t (key_counts done)
          ∙ ap (λ (p : ℕ). node (kind_of t) (number_of t) (count_of t) p (size t) (type_of segwit t)) no_place
          ∙ ap (node (kind_of t) (number_of t) (count_of t) 0 (size t)) e in
          let all_keys : keys ++ own_keys t ≡ keys = ap (λ (ks : List ℕ). keys ++ ks) no_keys ∙ append-nil keys in (
            rule-alone ∙ ap by_rule e,
            subst (λ (ks : List ℕ). Forest segwit (node (kind_of t) (number_of t) (count_of t) 0 (size t) (Ok c) ∷ nodes) ks (t ⊳ done)) all_keys
                (subst (λ (n : Node). Forest segwit (n ∷ nodes) (keys ++ own_keys t) (t ⊳ done)) root (forest_grows (c, e))),
          )
      rule_agrees (Err r) e = rule-alone ∙ ap by_rule e

      -- what a reduction makes agrees, if it is the tree's rule
      pub agrees : {made : Making} → made ≡ making (type_of segwit t) (parent (kind_of t) (number_of t) (count_of t) (size t)) → Agrees segwit nodes keys done t made
      agrees e = subst (Agrees segwit nodes keys done t) (sym e) (rule_agrees (type_of segwit t) refl)

  -- the values of a node that are tested before its type; a leaf whose values are allowed passes: `leaf_passes` of standard/proofs/Complete.antt

  pub leaf_refused : (l : Leaf) → allowed_leaf segwit l ≡ false → judge segwit (leaf l) ≡ fails (leaf_refusal segwit l) 0
  leaf_refused l e = ap (λ (b : Bool). pick b passes (fails (leaf_refusal segwit l) 0)) e

  pub thresh_refused : (k : ℕ) (x : Tree) (xs : Trees) → thresh_allowed k x xs ≡ false → judge segwit (thresh k x xs) ≡ fails 13 0
  thresh_refused k x xs refused = ap (λ (b : Bool). pick b (by_rule (type_of segwit (thresh k x xs))) (fails 13 0)) refused

  -- Each kind

  module _ {nodes : List Node} {keys : List ℕ} where
    -- a leaf's node has the place behind the keys so far, and its keys are put there
    pub leaf_made : (l : Leaf) (done : Trees) → Forest segwit nodes keys done
        → Forest segwit (new_leaf (leaf_kind l) (leaf_number l) (leaf_count l) (leaf_place l (length keys)) ∷ nodes) (keys ++ leaf_offsets l) (leaf l ⊳ done)
    leaf_made l done h =
        let root : root_node segwit (leaf l) (key_counts done) ≡ new_leaf (leaf_kind l) (leaf_number l) (leaf_count l) (leaf_place l (length keys)) =
        ap (root_node segwit (leaf l)) (sym (keys_counted h)) ∙ sym (leaf_root segwit l (length keys)) in
        subst (λ (n : Node). Forest segwit (n ∷ nodes) (keys ++ leaf_offsets l) (leaf l ⊳ done)) root (forest_grows (leaf l) done h (leaf_type (typed_leaf l), refl))

    pub wrap_agrees : (w : Wrapper) (x : Tree) (done : Trees) → Forest segwit nodes keys (x ⊳ done) → Agrees segwit nodes keys done (wrap w x) (reduce_one (wrapper_kind w) nodes)
    wrap_agrees w x done h =
        agrees (wrap w x) done h refl refl refl (ap (reduce_one (wrapper_kind w)) h.nodes_are ∙ reduce_wrap segwit 0 w x done h.types.0)

    pub join_agrees : (k : Combination) (x y : Tree) (done : Trees) → Forest segwit nodes keys (x ⊳ (y ⊳ done)) → Agrees segwit nodes keys done (join k x y) (reduce_two (combination_kind k) nodes)
    join_agrees k x y done h =
        agrees (join k x y) done h refl refl refl (ap (reduce_two (combination_kind k)) h.nodes_are ∙ reduce_join segwit 0 k x y done h.types.0 h.types.1.0)

    pub and_or_agrees : (x y z : Tree) (done : Trees) → Forest segwit nodes keys (x ⊳ (z ⊳ (y ⊳ done))) → Agrees segwit nodes keys done (and_or x y z) (reduce_three nodes)
    and_or_agrees x y z done h =
        agrees (and_or x y z) done h refl refl refl
        (ap reduce_three h.nodes_are ∙ reduce_and_or segwit 0 x y z done h.types.0 h.types.1.1.0 h.types.1.0)

    -- thresh, whose k is tested first
    pub thresh_agrees : (k : ℕ) (x : Tree) (xs done : Trees) → thresh_allowed k x xs ≡ true → Forest segwit nodes keys (x ⊳ (◌⊕◌ xs done))
        → Agrees segwit nodes keys done (thresh k x xs) (reduce_many k (suc (many xs)) nodes)
    thresh_agrees k x xs done allowed h =
        agrees (thresh k x xs) done h (ap (λ (b : Bool). pick b (by_rule (type_of segwit (thresh k x xs))) (fails 13 0)) allowed) refl refl
        (ap (reduce_many k (suc (many xs))) h.nodes_are ∙ reduce_thresh segwit 0 k x xs done h.types.0 (types_over segwit xs done h.types.1))
