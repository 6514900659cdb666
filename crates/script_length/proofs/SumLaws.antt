-- For the proof of the code: the sum over the nodes, from the first on, which stops as soon as it is above the limit. Assumes nothing.
use mathlib.Core.Path.{◌≡◌, refl, sym, ap, ◌∙◌, subst}
use mathlib.Core.Bool.{Bool}
use mathlib.Core.List.{List}
use Prim.Native.Nat.{ℕ, zero, suc, ◌+◌, ◌-◌, ◌≤◌, ◌<◌}
use native.Mathlib.Omega.{arith}
use borrow.Author.Tests.{le-leb, lt-leb}
use Rattle.lex.specs.Script.{script_limit}
use Rattle.tables.specs.Choose.{pick}
use Rattle.tables.specs.Tables.{newest}
use Rattle.standard.specs.Table.{node_at}
use Rattle.encoding.specs.Encoding.{node_count}
use Rattle.script_length.specs.Length.{added_bytes, bytes_of, capped, length_in}

module _ (segwit : Bool) (table : List ℕ) where
  abbrev sum : ℕ → ℕ
  sum i = bytes_of segwit (newest (node_at table) i)

  -- what has been summed
  pub record Summing (total i : ℕ) : Type 0 where
    pub inside : i ≤ node_count table
    pub summed : total ≡ sum i
    pub small : total ≤ 10000

  sum_grows : (k i : ℕ) → sum i ≤ sum (k + i)
  sum_grows zero i = let f : i ≡ 0 + i = omega arith in subst (λ (j : ℕ). sum i ≤ sum j) f (omega arith)
  sum_grows (suc k) i =
      let f : suc (k + i) ≡ suc k + i = omega arith in
      subst (λ (j : ℕ). sum i ≤ sum j) f (omega (arith, sum_grows k i))

  -- above the limit
  pub above : (total i own : ℕ) → Summing total i → i < node_count table → own ≡ added_bytes segwit (node_at table i) (newest (node_at table) i) → 10000 < total + own → 10001 ≡ length_in segwit table
  unfolding script_limit capped length_in
  above total i own s h e l =
      let f : node_count table - suc i + suc i ≡ node_count table = omega arith in
      let g : sum (suc i) ≤ sum (node_count table) = subst (λ (j : ℕ). sum (suc i) ≤ sum j) f (sum_grows (node_count table - suc i) (suc i)) in
      let h2 : 10000 < sum (node_count table) = omega (arith, g, s.summed, e) in
      sym (ap (λ x. pick x (sum (node_count table)) 10001) (lt-leb (sum (node_count table)) 10000 h2))

  pub ended : (total i : ℕ) → Summing total i → node_count table ≤ i → total ≡ length_in segwit table
  unfolding script_limit capped length_in
  ended total i s over =
      let f : i ≡ node_count table = omega (arith, s.inside, over) in
      let t : total ≡ sum (node_count table) = s.summed ∙ ap sum f in
      t ∙ sym (ap (λ x. pick x (sum (node_count table)) 10001) (le-leb (sum (node_count table)) 10000 (omega (arith, t, s.small))))
