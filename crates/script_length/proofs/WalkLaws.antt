-- For the proof of the code: walking down a node table to the tree whose ending decides. Assumes nothing.
-- Why: each step goes to the tree whose ending is the same, and that tree is the newest of fewer nodes.
use mathlib.Core.Path.{◌≡◌, refl, sym, ap, ◌∙◌}
use mathlib.Core.Bool.{true, false}
use mathlib.Core.List.{List, [], ◌∷◌}
use Prim.Native.Nat.{ℕ, zero, suc, ◌-◌, ◌*◌, ◌≤◌, ◌<◌}
use native.Mathlib.Omega.{arith}
use lib.ListN.{get_or, drop}
use Rattle.tables.specs.Tables.{newest}
use Rattle.tables.proofs.NewestLaws.{newest_pop, newest_drop}
use Rattle.standard.specs.Table.{Node, node_at, terminal_of}
use Rattle.script_length.specs.declared.Ending.{Ending}
use Rattle.script_length.specs.declared.Ending.TheVariants.{Fusible, Plain, OfFirst, OfSecond}
use Rattle.script_length.specs.Length.{ending_of, newest_size, ends_by, ends_from, ends_fusible}

module _ (table : List ℕ) where
  abbrev first : ℕ → List Node
  first m = newest (node_at table) m

  -- where the walk is
  pub record Walking (m at : ℕ) : Type 0 where
    pub inside : at ≤ m
    pub same : ends_fusible (first m) ≡ ends_fusible (first at)

  ends_skipped : (skip : ℕ) (ns : List Node) → ends_from skip ns ≡ ends_from 0 (drop skip ns)
  ends_skipped zero ns = refl
  ends_skipped (suc skip) [] = refl
  ends_skipped (suc skip) (n ∷ ns) = ends_skipped skip ns

  -- the ending of the newest of `at` trees, by what its root's kind says
  said : (at : ℕ) (e : Ending) → 0 < at → e ≡ ending_of (terminal_of (get_or table (9 * (at - 1)) 0)) → ends_fusible (first at) ≡ ends_by e (λ skip. ends_from skip (first (at - 1))) (newest_size (first (at - 1)))
  unfolding ends_fusible
  said at e h k =
      ap (ends_from 0) (newest_pop (node_at table) at h) ∙ ap (λ (x : Ending). ends_by x (λ skip. ends_from skip (first (at - 1))) (newest_size (first (at - 1)))) (sym k)

  module _ (m at : ℕ) (e : Ending) (w : Walking m at) (some : 0 < at) (known : e ≡ ending_of (terminal_of (get_or table (9 * (at - 1)) 0))) where
    told : {x : Ending} → e ≡ x → ends_fusible (first m) ≡ ends_by x (λ skip. ends_from skip (first (at - 1))) (newest_size (first (at - 1)))
    told {x} i = w.same ∙ said at x some (sym i ∙ known)

    pub fusible_there : e ≡ Fusible → true ≡ ends_fusible (first m)
    fusible_there i = sym (told i)

    pub plain_there : e ≡ Plain → false ≡ ends_fusible (first m)
    plain_there i = sym (told i)

    pub to_first : e ≡ OfFirst → Walking m (at - 1)
    unfolding ends_fusible
    to_first i = record { inside = omega (arith, w.inside); same = told i }

    pub to_second : (next : ℕ) → e ≡ OfSecond → next ≡ at - 1 - newest_size (first (at - 1)) → Walking m next
    unfolding ends_fusible
    to_second next i n =
        record {
          inside = omega (arith, w.inside, n);
          same =
              told i
              ∙ ends_skipped (newest_size (first (at - 1))) (first (at - 1))
              ∙ ap (ends_from 0) (newest_drop (node_at table) (at - 1) (newest_size (first (at - 1))))
              ∙ ap (λ (k : ℕ). ends_from 0 (first k)) (sym n);
        }

  pub nothing_left : (m at : ℕ) → Walking m at → at ≤ 0 → false ≡ ends_fusible (first m)
  unfolding ends_fusible
  nothing_left m at w over = let z : at ≡ 0 = omega (arith, over) in sym (w.same ∙ ap (λ (k : ℕ). ends_from 0 (first k)) z)
