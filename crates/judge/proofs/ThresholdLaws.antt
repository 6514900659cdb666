-- The loop over a thresh's children: before child i, the children from there on, with the type and size of those before it, make what all of them make. Assumes nothing.
use mathlib.Core.Path.{◌≡◌, refl, sym, ap, subst, ◌∙◌}
use mathlib.Core.List.{List}
use Prim.Native.Nat.{ℕ, ◌+◌, ◌-◌, ◌≤◌, ◌<◌}
use native.Mathlib.Omega.{arith}
use Rattle.tables.specs.Tables.{newest}
use Rattle.correctness.specs.declared.Correctness.{Correctness}
use Rattle.correctness.specs.declared.ErrorKind.{ErrorKind}
use Rattle.correctness.specs.Typed.{Typed}
use Rattle.std.specs.Prelude.{Ok, Err}
use Rattle.correctness.specs.Reasons.{reason}
use Rattle.correctness.specs.Rules.{no_children, threshold_child}
use Rattle.standard.specs.Table.{Node}
use Rattle.judge.specs.Nodes.{held_type, under_top, Making, refuses, making, reduce_children, reduce_many}
use Rattle.judge.specs.NodeTable.{node_at, size_at, Subtrees, Finished}
use Rattle.judge.specs.NodeTableLaws.{top_read, under_read, one_more, next_there}
use Rattle.judge.proofs.ReductionLaws.{refused, given_type}

pub record Threshing (t : List ℕ) (m k n : ℕ) (earlier : Correctness) (at size i : ℕ) : Type 0 where
  pub counted : i ≤ n
  pub inside : size + at ≤ m
  pub waiting : Subtrees (n - i) at t
  pub same : reduce_children k n (n - i) i earlier size (newest (node_at t) at) ≡ reduce_many k n (newest (node_at t) m)

module _ (t : List ℕ) (m k n : ℕ) where
  pub begun : {earlier : Correctness} → Finished n m t → earlier ≡ no_children → Threshing t m k n earlier m 0 0
  unfolding reduce_many
  begun {earlier} r e =
      let z : n ≡ n - 0 = omega arith in
      record {
        counted = omega arith;
        inside = omega arith;
        waiting = subst (λ (j : ℕ). Subtrees j m t) z r.subtrees;
        same =
            ap (λ (j : ℕ). reduce_children k n j 0 earlier 0 (newest (node_at t) m)) (sym z)
            ∙ ap (λ (c : Correctness). reduce_children k n n 0 c 0 (newest (node_at t) m)) e;
      }

  module _ {earlier : Correctness} {at size i : ℕ} (h : Threshing t m k n earlier at size i) where
    -- the next child is there, and those after it
    pub child_there : i < n → (1 ≤ at) × (1 ≤ size_at t (at - 1)) × (size_at t (at - 1) ≤ at) × Subtrees (n - (i + 1)) (at - size_at t (at - 1)) t
    child_there more = next_there t n more h.waiting

    module _ {x : Correctness} {answer : Typed} (more : i < n) (x-is : x ≡ held_type (node_at t (at - 1))) (judged : answer ≡ threshold_child i earlier x) where
      child_judged : making answer (λ next. reduce_children k n (n - (i + 1)) (i + 1) next (size + size_at t (at - 1)) (newest (node_at t) (at - size_at t (at - 1)))) ≡ reduce_many k n (newest (node_at t) m)
      child_judged =
          let some : 1 ≤ at = (child_there more).0 in
          let rest : Correctness → ℕ → List Node → Making = λ next s ns. reduce_children k n (n - (i + 1)) (i + 1) next s ns in
          ap (λ (a : Typed). making a (λ next. rest next (size + size_at t (at - 1)) (newest (node_at t) (at - size_at t (at - 1))))) (judged ∙ ap (threshold_child i earlier) x-is)
          ∙ ap (λ (ns : List Node). making (threshold_child i earlier (held_type (node_at t (at - 1)))) (λ next. rest next (size + size_at t (at - 1)) ns)) (sym (under_read t at some refl))
          ∙ ap (λ (a : Node). making (threshold_child i earlier (held_type a)) (λ next. rest next (size + a.size) (under_top (newest (node_at t) at)))) (sym (top_read t at some))
          ∙ ap (λ (j : ℕ). reduce_children k n j i earlier size (newest (node_at t) at)) (sym (one_more n i more))
          ∙ h.same

      pub child_refused : {e : ErrorKind} {r : ℕ} → answer ≡ Err e → r ≡ reason answer → refuses r ≡ reduce_many k n (newest (node_at t) m)
      child_refused p q = refused answer _ p q ∙ child_judged

      pub again : {next : Correctness} {s : ℕ} → answer ≡ Ok next → s ≡ size_at t (at - 1) → Threshing t m k n next (at - s) (size + s) (i + 1)
      again {next} {s} p q =
          let inside : size + at ≤ m = h.inside in
          let below : size_at t (at - 1) ≤ at = (child_there more).2 in
          record {
            counted = omega arith;
            inside = omega (arith, q);
            waiting = subst (λ (j : ℕ). Subtrees (n - (i + 1)) (at - j) t) (sym q) (child_there more).3;
            same =
                ap (λ (j : ℕ). reduce_children k n (n - (i + 1)) (i + 1) next (size + j) (newest (node_at t) (at - j))) q
                ∙ given_type answer _ p refl
                ∙ child_judged;
          }
