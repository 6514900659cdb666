-- The records that are written over from the first on: what holds after each store, over plain lists. Assumes nothing.
--     over t n j i l      l, whose head is record number j, with the table's records written over it from its place i on
--     over_next, over_end    a store at place i is one place less to write; with none left it is l
--     over_all     written over whole, it is the table
use mathlib.Core.Path.{◌≡◌, refl, sym, ◌∙◌, ap}
use Prim.Native.Nat.{ℕ, zero, suc, ◌<◌, ◌≤◌, ◌+◌, ◌-◌}
use native.Mathlib.Omega.{arith}
use native.Mathlib.Nat.{not-suc-le-zero, le_of_suc-le-suc, add-zero}
use mathlib.Core.List.{List, [], ◌∷◌, ◌++◌}
use lib.ListN.{length, set, replicate}
use borrow.Author.Tests.{le-leb, lt-leb}
use Rattle.judge.specs.declared.Node.{Node}
use Rattle.judge.specs.NodeTable.{node_at}
use Rattle.node_records.specs.Records.{record_of, zero_record, records_from, record_table, record_at}

pub at_node : (t : List ℕ) (n i : ℕ) → i < n → record_of (node_at t i) ≡ record_at t n i
unfolding record_at
at_node t n i l = simp (lt-leb n i l)

pub at_zero : (t : List ℕ) (n i : ℕ) → n ≤ i → zero_record ≡ record_at t n i
unfolding record_at
at_zero t n i l = simp (le-leb n i l)

one_more : (i : ℕ) → i + 1 ≡ suc i
one_more i = omega arith

abbrev pub over : List ℕ → ℕ → ℕ → ℕ → List Node → List Node
over t n j i [] = []
over t n j zero (y ∷ ys) = record_at t n j ∷ over t n (suc j) zero ys
over t n j (suc i) (y ∷ ys) = y ∷ over t n (suc j) i ys

over_store : (t : List ℕ) (n j i k : ℕ) (l : List Node) → i < length l → k ≡ j + i → over t n j i l ≡ over t n j (suc i) (set l i (record_at t n k))
over_store t n j i k [] lt e = absurd (not-suc-le-zero lt)
over_store t n j zero k (y ∷ ys) lt e = ap (λ (m : ℕ). record_at t n m ∷ over t n (suc j) zero ys) (sym (e ∙ add-zero j))
over_store t n j (suc i) k (y ∷ ys) lt e = ap (λ (l : List Node). y ∷ l) (over_store t n (suc j) i k ys (le_of_suc-le-suc lt) (omega (arith, e)))

-- the same with the counter as the code has it
pub over_next : (t : List ℕ) (n i : ℕ) (l : List Node) → i < length l → over t n 0 (i + 1) (set l i (record_at t n i)) ≡ over t n 0 i l
over_next t n i l lt = ap (λ (k : ℕ). over t n 0 k (set l i (record_at t n i))) (one_more i) ∙ sym (over_store t n 0 i i l lt (omega arith))

pub over_end : (t : List ℕ) (n j i : ℕ) (l : List Node) → length l ≤ i → over t n j i l ≡ l
over_end t n j i [] le = refl
over_end t n j zero (y ∷ ys) le = absurd (not-suc-le-zero le)
over_end t n j (suc i) (y ∷ ys) le = ap (λ (l : List Node). y ∷ l) (over_end t n (suc j) i ys (le_of_suc-le-suc le))

-- behind the nodes all are zero records
over_zeros : (t : List ℕ) (n j : ℕ) (l : List Node) → n ≤ j → over t n j 0 l ≡ replicate (length l) zero_record
over_zeros t n j [] le = refl
over_zeros t n j (y ∷ ys) le = ap (λ (x : Node). x ∷ over t n (suc j) 0 ys) (sym (at_zero t n j le)) ∙ ap (λ (l : List Node). zero_record ∷ l) (over_zeros t n (suc j) ys (omega (arith, le)))

more_zeros : (l : List Node) (m k : ℕ) → m ≡ k → l ++ replicate m zero_record ≡ l ++ replicate k zero_record
more_zeros l m k e = ap (λ (i : ℕ). l ++ replicate i zero_record) e

over_from : (t : List ℕ) (n j k : ℕ) (l : List Node) → n ≡ j + k → k ≤ length l → over t n j 0 l ≡ records_from t j k ++ replicate (length l - k) zero_record
over_from t n j zero l e le = over_zeros t n j l (omega (arith, e)) ∙ more_zeros [] (length l) (length l - 0) (omega arith)
over_from t n j (suc k) [] e le = absurd (not-suc-le-zero le)
over_from t n j (suc k) (y ∷ ys) e le =
    ap (λ (x : Node). x ∷ over t n (suc j) 0 ys) (sym (at_node t n j (omega (arith, e)))) ∙ ap (λ (l : List Node). record_of (node_at t j) ∷ l) (over_from t n (suc j) k ys (omega (arith, e)) (le_of_suc-le-suc le)
    ∙ more_zeros (records_from t (suc j) k) (length ys - k) (suc (length ys) - suc k) (omega arith))

pub over_all : (t : List ℕ) (n : ℕ) (l : List Node) → n ≤ length l → over t n 0 0 l ≡ record_table t n (length l)
unfolding record_table
over_all t n l le = over_from t n 0 n l (omega arith) le
