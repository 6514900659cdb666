-- What the code reads at the roots of the newest subtrees is what the reduction on the list of nodes reads. Assumes nothing.
-- Why: the nodes under the newest subtree are again the first nodes of the table, fewer by its size, so each child is the newest of a shorter list.
use mathlib.Core.Path.{◌≡◌, sym, ap, ◌∙◌}
use mathlib.Core.List.{List}
use Prim.Native.Nat.{ℕ, ◌+◌, ◌-◌, ◌≤◌, ◌<◌}
use native.Mathlib.Omega.{arith}
use Rattle.tables.specs.Tables.{newest}
use Rattle.correctness.specs.declared.Correctness.{Correctness}
use Rattle.correctness.specs.declared.ErrorKind.{ErrorKind}
use Rattle.correctness.specs.declared.Leaf.{Leaf}
use Rattle.correctness.specs.Typed.{Typed}
use Rattle.std.specs.Prelude.{Ok, Err}
use Rattle.correctness.specs.Reasons.{reason}
use Rattle.correctness.specs.Rules.{leaf_type, and_or}
use Rattle.standard.specs.Table.{Node, node, and_or_kind}
use Rattle.judge.specs.Nodes.{held_type, top_node, under_top, leaf_of, new_leaf, cast_of, combination_of, Making, makes, refuses, making, parent, reduce_one, reduce_two, reduce_three}
use Rattle.judge.specs.NodeTable.{node_at, size_at, Finished}
use Rattle.judge.specs.NodeTableLaws.{top_read, under_read}

-- Answers

-- a rule that refuses
pub refused : (answer : Typed) (next : Correctness → Making) {e : ErrorKind} {r : ℕ} → answer ≡ Err e → r ≡ reason answer → refuses r ≡ making answer next
refused answer next e r = ap refuses (r ∙ ap reason e) ∙ sym (ap (λ (a : Typed). making a next) e)

-- a rule that gives a type
pub given_type : (answer : Typed) (next : Correctness → Making) {c : Correctness} {x : Making} → answer ≡ Ok c → x ≡ next c → x ≡ making answer next
given_type answer next e h = h ∙ sym (ap (λ (a : Typed). making a next) e)

-- a leaf's type, by its kind
pub leaf_is : (kind number count place : ℕ) {l : Leaf} {c : Correctness} {n : Node} → l ≡ leaf_of kind → c ≡ leaf_type l → n ≡ node kind number count place 1 (Ok c) → n ≡ new_leaf kind number count place
unfolding new_leaf
leaf_is kind number count place p q h = h ∙ ap (λ (x : Correctness). node kind number count place 1 (Ok x)) (q ∙ ap leaf_type p)

-- The list of nodes, read off the table

-- the root below p nodes, counted either way
one_less : (m p : ℕ) → m - p - 1 ≡ m - 1 - p
one_less m p = omega arith

one_less_twice : (m p q : ℕ) → m - p - q - 1 ≡ m - 1 - p - q
one_less_twice m p q = one_less (m - p) q ∙ ap (λ (k : ℕ). k - q) (one_less m p)

-- one child
module _ (kind m : ℕ) (t : List ℕ) {x : Correctness} {answer : Typed} (some : 1 ≤ m) (x-is : x ≡ held_type (node_at t (m - 1))) (judged : answer ≡ cast_of kind x) where
  one_child : making answer (parent kind 0 0 (size_at t (m - 1) + 1)) ≡ reduce_one kind (newest (node_at t) m)
  unfolding reduce_one
  one_child =
      ap (λ (a : Typed). making a (parent kind 0 0 (size_at t (m - 1) + 1))) (judged ∙ ap (cast_of kind) x-is)
      ∙ ap (λ (n : Node). making (cast_of kind (held_type n)) (parent kind 0 0 (n.size + 1))) (sym (top_read t m some))

  pub one_refused : {e : ErrorKind} {r : ℕ} → answer ≡ Err e → r ≡ reason answer → refuses r ≡ reduce_one kind (newest (node_at t) m)
  one_refused p q = refused answer _ p q ∙ one_child

  pub one_made : {c : Correctness} {s : ℕ} {n : Node} → answer ≡ Ok c → s ≡ size_at t (m - 1) → n ≡ node kind 0 0 0 (s + 1) (Ok c) → makes n ≡ reduce_one kind (newest (node_at t) m)
  one_made {c} p q h = given_type answer _ p (ap makes h ∙ ap (λ (k : ℕ). parent kind 0 0 (k + 1) c) q) ∙ one_child

-- two children: the second is the newest of what lies under the first
module _ (m : ℕ) (t : List ℕ) {p : ℕ} (below : p < m) (p-is : p ≡ size_at t (m - 1)) where
  second_read : top_node (under_top (newest (node_at t) m)) ≡ node_at t (m - 1 - p)
  second_read =
      ap top_node (under_read t m (omega arith) p-is) ∙ top_read t (m - p) (omega arith) ∙ ap (node_at t) (one_less m p)

  module _ (kind : ℕ) {x y : Correctness} {answer : Typed} (x-is : x ≡ held_type (node_at t (m - 1))) (y-is : y ≡ held_type (node_at t (m - 1 - p))) (judged : answer ≡ combination_of kind x y) where
    two_children : making answer (parent kind 0 0 (p + size_at t (m - 1 - p) + 1)) ≡ reduce_two kind (newest (node_at t) m)
    unfolding reduce_two
    two_children =
        let y-node : Node = node_at t (m - 1 - p) in
        let x-node : Node = node_at t (m - 1) in
        ap (λ (a : Typed). making a (parent kind 0 0 (p + y-node.size + 1)))
        (judged ∙ ap (λ (c : Correctness). combination_of kind c y) x-is ∙ ap (λ (c : Correctness). combination_of kind (held_type x-node) c) y-is)
        ∙ ap (λ (k : ℕ). making (combination_of kind (held_type x-node) (held_type y-node)) (parent kind 0 0 (k + y-node.size + 1))) p-is
        ∙ ap (λ (n : Node). making (combination_of kind (held_type x-node) (held_type n)) (parent kind 0 0 (x-node.size + n.size + 1))) (sym second_read)
        ∙ ap (λ (n : Node). making (combination_of kind (held_type n) (held_type (top_node (under_top (newest (node_at t) m))))) (parent kind 0 0 (n.size + (top_node (under_top (newest (node_at t) m))).size + 1)))
        (sym (top_read t m (omega arith)))

    pub two_refused : {e : ErrorKind} {r : ℕ} → answer ≡ Err e → r ≡ reason answer → refuses r ≡ reduce_two kind (newest (node_at t) m)
    two_refused f g = refused answer _ f g ∙ two_children

    pub two_made : {c : Correctness} {q : ℕ} {n : Node} → answer ≡ Ok c → q ≡ size_at t (m - 1 - p) → n ≡ node kind 0 0 0 (p + q + 1) (Ok c) → makes n ≡ reduce_two kind (newest (node_at t) m)
    two_made {c} f g h = given_type answer _ f (ap makes h ∙ ap (λ (k : ℕ). parent kind 0 0 (p + k + 1) c) g) ∙ two_children

  -- three children, in script order X, Z, Y
  module _ {q : ℕ} (lower : p + q < m) (q-is : q ≡ size_at t (m - 1 - p)) where
    third_read : top_node (under_top (under_top (newest (node_at t) m))) ≡ node_at t (m - 1 - p - q)
    third_read =
        ap (λ (ns : List Node). top_node (under_top ns)) (under_read t m (omega arith) p-is)
        ∙ ap top_node (under_read t (m - p) (omega arith) (q-is ∙ ap (size_at t) (sym (one_less m p))))
        ∙ top_read t (m - p - q) (omega arith)
        ∙ ap (node_at t) (one_less_twice m p q)

    module _ {x y z : Correctness} {answer : Typed} (x-is : x ≡ held_type (node_at t (m - 1))) (y-is : y ≡ held_type (node_at t (m - 1 - p - q))) (z-is : z ≡ held_type (node_at t (m - 1 - p))) (judged : answer ≡ and_or x y z) where
      three_children_lem : making answer (parent and_or_kind 0 0 (p + size_at t (m - 1 - p - q) + q + 1)) ≡ reduce_three (newest (node_at t) m)
      unfolding reduce_three
      three_children_lem =
          let made_of : Node → Node → Node → Making = λ a b c. making (and_or (held_type a) (held_type b) (held_type c)) (parent and_or_kind 0 0 (a.size + b.size + c.size + 1)) in
          let x-node : Node = node_at t (m - 1) in
          let y-node : Node = node_at t (m - 1 - p - q) in
          let z-node : Node = node_at t (m - 1 - p) in
          ap (λ (a : Typed). making a (parent and_or_kind 0 0 (p + y-node.size + q + 1)))
          (judged
          ∙ ap (λ (c : Correctness). and_or c y z) x-is
          ∙ ap (λ (c : Correctness). and_or (held_type x-node) c z) y-is
          ∙ ap (λ (c : Correctness). and_or (held_type x-node) (held_type y-node) c) z-is)
          ∙ ap (λ (k : ℕ). making (and_or (held_type x-node) (held_type y-node) (held_type z-node)) (parent and_or_kind 0 0 (k + y-node.size + q + 1))) p-is
          ∙ ap (λ (k : ℕ). making (and_or (held_type x-node) (held_type y-node) (held_type z-node)) (parent and_or_kind 0 0 (x-node.size + y-node.size + k + 1))) q-is
          ∙ ap (λ (n : Node). made_of n y-node z-node) (sym (top_read t m (omega arith)))
          ∙ ap (λ (n : Node). made_of (top_node (newest (node_at t) m)) y-node n) (sym second_read)
          ∙ ap (λ (n : Node). made_of (top_node (newest (node_at t) m)) n (top_node (under_top (newest (node_at t) m)))) (sym third_read)

      pub three_refused : {e : ErrorKind} {r : ℕ} → answer ≡ Err e → r ≡ reason answer → refuses r ≡ reduce_three (newest (node_at t) m)
      three_refused f g = refused answer _ f g ∙ three_children_lem

      pub three_made : {c : Correctness} {s : ℕ} {n : Node} → answer ≡ Ok c → s ≡ size_at t (m - 1 - p - q) → n ≡ node and_or_kind 0 0 0 (p + s + q + 1) (Ok c) → makes n ≡ reduce_three (newest (node_at t) m)
      three_made {c} f g h = given_type answer _ f (ap makes h ∙ ap (λ (k : ℕ). parent and_or_kind 0 0 (p + k + q + 1) c) g) ∙ three_children_lem

-- What is required, in the code's own indices

pub record TwoFit (m p q : ℕ) : Type 0 where
  pub first : p < m
  pub both : p + q ≤ m
  pub countable : m + 1 < 4294967296

pub two_fit : (m : ℕ) (t : List ℕ) {p q : ℕ} → Finished 2 m t → p ≡ size_at t (m - 1) → q ≡ size_at t (m - 1 - p) → TwoFit m p q
two_fit m t {p} {q} r e f =
    let s : ℕ = size_at t (m - 1) in
    let b : s ≤ m = r.subtrees.2 in
    let c : 1 ≤ m - s = r.subtrees.3.0 in
    let d : size_at t (m - s - 1) ≤ m - s = r.subtrees.3.2 in
    let h : size_at t (m - s - 1) ≡ q = ap (size_at t) (one_less m s ∙ ap (λ (k : ℕ). m - 1 - k) (sym e)) ∙ sym f in
    record { first = omega (arith, e); both = omega (arith, e, h); countable = r.countable }

pub record ThreeFit (m p q s : ℕ) : Type 0 where
  pub first : p < m
  pub two : p + q < m
  pub all : p + q + s ≤ m
  pub countable : m + 1 < 4294967296

pub three_fit : (m : ℕ) (t : List ℕ) {p q s : ℕ} → Finished 3 m t → p ≡ size_at t (m - 1) → q ≡ size_at t (m - 1 - p) → s ≡ size_at t (m - 1 - p - q) → ThreeFit m p q s
three_fit m t {p} {q} {s} r e f g =
    let a : ℕ = size_at t (m - 1) in
    let b : ℕ = size_at t (m - a - 1) in
    let b-is : b ≡ q = ap (size_at t) (one_less m a ∙ ap (λ (k : ℕ). m - 1 - k) (sym e)) ∙ sym f in
    let c-is : size_at t (m - a - b - 1) ≡ s =
    ap (size_at t) (one_less_twice m a b ∙ ap (λ (k : ℕ). m - 1 - k - b) (sym e) ∙ ap (λ (k : ℕ). m - 1 - p - k) b-is) ∙ sym g in
    fit m a b (size_at t (m - a - b - 1)) e b-is c-is r.subtrees.2 r.subtrees.3.0 r.subtrees.3.2 r.subtrees.3.3.0 r.subtrees.3.3.2 r.countable
  where
    fit : (m a b c : ℕ) {p q s : ℕ} → p ≡ a → b ≡ q → c ≡ s → a ≤ m → 1 ≤ m - a → b ≤ m - a → 1 ≤ m - a - b → c ≤ m - a - b → m + 1 < 4294967296 → ThreeFit m p q s
    fit m a b c e f g h i j k l n = record { first = omega arith; two = omega arith; all = omega arith; countable = n }
