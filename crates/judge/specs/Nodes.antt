-- For the proof: the nodes of the finished trees as a list, the newest first, and what a reduction makes of its children there: a node, or the reason of 14. Kinds are the numbers of document 01, "Tokens to tree"; the rules are those of "Types".
use Rattle.std.specs.Prelude.{List, [], ◌∷◌, ℕ, zero, suc, ◌+◌, eqb, drop}
use Rattle.tables.specs.Choose.{pick}
use Rattle.base_input.specs.Numbers.{base_of, input_of, bool_of}
use Rattle.correctness.specs.declared.Correctness.{Correctness}
use Rattle.correctness.specs.declared.Leaf.{Leaf}
use Rattle.correctness.specs.declared.Leaf.TheVariants as leaf
use Rattle.correctness.specs.Typed.{Typed}
use Rattle.std.specs.Prelude.{Ok, Err}
use Rattle.correctness.specs.Reasons.{reason_of}
use Rattle.correctness.specs.Rules.{made, leaf_type, cast_alt, cast_swap, cast_check, cast_dupif, cast_verify, cast_nonzero, cast_zeronotequal, and_v, and_b, or_b, or_d, or_c, or_i, and_or, no_children, threshold_child}
use Rattle.standard.specs.Table.{Node, node, and_or_kind, thresh_kind}

-- Nodes on a list

-- the type that a node's fields hold
abbrev pub held_type : Node → Correctness
held_type n = made (base_of n.base) (input_of n.input) (bool_of n.d) (bool_of n.u)

-- where there is none
abbrev pub no_node : Node
no_node = record { kind = 0; number = 0; count = 0; place = 0; size = 0; base = 0; input = 0; d = 0; u = 0 }

-- the root of the newest finished tree
abbrev pub top_node : List Node → Node
top_node [] = no_node
top_node (n ∷ ns) = n

-- the nodes of the other finished trees
abbrev pub under_top : List Node → List Node
under_top ns = drop (top_node ns).size ns

-- The rule of a kind

-- a kind without a child; the hashes are 8 to 11
unfoldable pub leaf_of : ℕ → Leaf
leaf_of kind =
    pick (eqb kind 1) leaf.True
    (pick (eqb kind 2) leaf.False
    (pick (eqb kind 3) leaf.PkK
    (pick (eqb kind 5) leaf.RawPkH
    (pick (eqb kind 6) leaf.Time
    (pick (eqb kind 7) leaf.Time
    (pick (eqb kind 27) leaf.Multi
    (pick (eqb kind 28) leaf.MultiA
    leaf.Hash)))))))

-- with one child; n: is 18
unfoldable pub cast_of : ℕ → Correctness → Typed
cast_of kind x =
    pick (eqb kind 12) (cast_alt x)
    (pick (eqb kind 13) (cast_swap x)
    (pick (eqb kind 14) (cast_check x)
    (pick (eqb kind 15) (cast_dupif x)
    (pick (eqb kind 16) (cast_verify x)
    (pick (eqb kind 17) (cast_nonzero x)
    (cast_zeronotequal x))))))

-- with two children; or_i is 25
unfoldable pub combination_of : ℕ → Correctness → Correctness → Typed
combination_of kind x y =
    pick (eqb kind 19) (and_v x y)
    (pick (eqb kind 20) (and_b x y)
    (pick (eqb kind 22) (or_b x y)
    (pick (eqb kind 23) (or_d x y)
    (pick (eqb kind 24) (or_c x y)
    (or_i x y)))))

-- What a reduction makes

-- a node, or a reason of 14
pub data Making : Type 0 where
  makes : Node → Making
  refuses : ℕ → Making

-- what is made of a rule's answer: a refusal stays as it is
abbrev pub making : Typed → (Correctness → Making) → Making
making (Ok c) next = next c
making (Err e) next = refuses (reason_of e)

-- a node of this kind, k, count of children, size and type; a node with children has no place
abbrev pub parent : ℕ → ℕ → ℕ → ℕ → Correctness → Making
parent kind number count size c = makes (node kind number count 0 size (Ok c))

-- a leaf of this kind, locktime or k, count of keys and place
unfoldable pub new_leaf : ℕ → ℕ → ℕ → ℕ → Node
new_leaf kind number count place = node kind number count place 1 (Ok (leaf_type (leaf_of kind)))

-- one child
unfoldable pub reduce_one : ℕ → List Node → Making
reduce_one kind ns =
    let x = top_node ns in
    making (cast_of kind (held_type x)) (parent kind 0 0 (x.size + 1))

-- "the newest being the first in script order"
unfoldable pub reduce_two : ℕ → List Node → Making
reduce_two kind ns =
    let x = top_node ns in
    let y = top_node (under_top ns) in
    making (combination_of kind (held_type x) (held_type y)) (parent kind 0 0 (x.size + y.size + 1))

-- "and_or's script order is X, Z, Y"
unfoldable pub reduce_three : List Node → Making
reduce_three ns =
    let x = top_node ns in
    let z = top_node (under_top ns) in
    let y = top_node (under_top (under_top ns)) in
    making (and_or (held_type x) (held_type y) (held_type z)) (parent and_or_kind 0 0 (x.size + y.size + z.size + 1))

-- "A thresh child is tested for base, unit, dissatisfiable, child by child": k, n, children left, number of the next one; the type and the size of those before it
abbrev pub reduce_children : ℕ → ℕ → ℕ → ℕ → Correctness → ℕ → List Node → Making
reduce_children k n zero i earlier size ns = parent thresh_kind k n (size + 1) earlier
reduce_children k n (suc left) i earlier size ns =
    making (threshold_child i earlier (held_type (top_node ns)))
    (λ next. reduce_children k n left (i + 1) next (size + (top_node ns).size) (under_top ns))

unfoldable pub reduce_many : ℕ → ℕ → List Node → Making
reduce_many k n ns = reduce_children k n n 0 no_children 0 ns
