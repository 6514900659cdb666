-- For the proof: when nodes, the newest first, are those of a stack of finished trees: each node makes its tree of the trees under it, its size is the tree's, and it holds the tree's type. Then the newest node's size says where the next tree starts. Assumes nothing.
-- Why: a node's children are taken off the stack, so the nodes under it are those of its children and of the other trees.
use mathlib.Core.Path.{◌≡◌, refl, sym, ap, ◌∙◌, subst}
use mathlib.Core.Bool.{Bool}
use mathlib.Core.List.{List, [], ◌∷◌}
use Prim.Native.Nat.{ℕ, suc, ◌+◌}
use native.Mathlib.Omega.{arith}
use lib.ListN.{length, drop}
use Rattle.standard.specs.Tree.{Tree, Trees, nil, ◌⊳◌, ◌⊕◌, many, size, sizes}
use Rattle.standard.proofs.TreeLaws.{sizes_append}
use Rattle.standard.specs.Table.{Node}
use Rattle.forest.specs.Forest.{children}
use Rattle.encoding.proofs.Passed.{Passed, made_of, size_of_children, append_trees}

module _ (segwit : Bool) (material keys : List ℕ) where
  -- The nodes, the newest first, and the finished trees, the newest first: each node has passed over the trees under it
  pub data Stands : List Node → Trees → Type 0 where
    empty : Stands [] nil
    more : {n : Node} {ns : List Node} {ts us : Trees} {t : Tree} → Stands ns ts → Passed segwit material keys n ts t us → Stands (n ∷ ns) (t ⊳ us)

  -- as many nodes as the trees have
  pub stands_length : {ns : List Node} {ts : Trees} → Stands ns ts → length ns ≡ sizes ts
  stands_length empty = refl
  stands_length (more {n} {ns} {ts} {us} {t} s p) =
      let m : ts ≡ ◌⊕◌ (children t) us = made_of segwit material keys n ts us t p.makes in
      let a : sizes ts ≡ sizes (children t) + sizes us = ap sizes m ∙ sizes_append (children t) us in
      omega (arith, stands_length s, size_of_children t)

  -- under the nodes of some trees stand those of the others
  abbrev Under : List Node → Trees → Type 0
  Under ns ts = (us vs : Trees) → ts ≡ ◌⊕◌ us vs → Stands (drop (sizes us) ns) vs

  none_under : Under [] nil
  none_under nil vs e = subst (λ (x : Trees). Stands [] x) e empty
  none_under (u ⊳ us) vs e = let z : 0 ≡ suc (many (◌⊕◌ us vs)) = ap many e in let no : ⊥ = omega arith in absurd no

  same_rest : (t v : Tree) (us rest vs : Trees) → t ⊳ us ≡ v ⊳ (◌⊕◌ rest vs) → ◌⊕◌ (children t) us ≡ ◌⊕◌ (◌⊕◌ (children v) rest) vs
  same_rest t v us rest vs q =
      let a : t ≡ v = cc in
      let b : us ≡ ◌⊕◌ rest vs = cc in
      rw (a, b) (sym (append_trees (children v) rest vs))

  more_under : (n : Node) (ns : List Node) (ts us : Trees) (t : Tree) → Stands ns ts → Under ns ts → Passed segwit material keys n ts t us → Under (n ∷ ns) (t ⊳ us)
  more_under n ns ts us t s under p nil vs q = subst (λ (x : Trees). Stands (n ∷ ns) x) q (more s p)
  more_under n ns ts us t s under p (v ⊳ rest) vs q =
      let f : suc (sizes (◌⊕◌ (children v) rest)) ≡ size v + sizes rest = omega (arith, sizes_append (children v) rest, size_of_children v) in
      subst (λ (k : ℕ). Stands (drop k (n ∷ ns)) vs) f (under (◌⊕◌ (children v) rest) vs (made_of segwit material keys n ts us t p.makes ∙ same_rest t v us rest vs q))

  pub stands_under : {ns : List Node} {ts : Trees} → Stands ns ts → Under ns ts
  stands_under empty = none_under
  stands_under (more {n} {ns} {ts} {us} {t} s p) = more_under n ns ts us t s (stands_under s) p
