-- A reading's nodes fit its records; and a reading and a writing make the whole outcome. Assumes nothing.
-- Why the nodes fit: so many records come from the flat table, the rest are zero records, and together they are as many as were lent.
use mathlib.Core.Path.{◌≡◌, refl, sym, ap, ◌∙◌}
use mathlib.Core.List.{List, ◌++◌}
use Prim.Native.Nat.{ℕ, zero, suc, ◌+◌, ◌-◌, ◌≤◌}
use native.Mathlib.Omega.{arith}
use lib.ListN.{length, take, replicate, length-append, length-replicate}
use Rattle.standard.specs.Outcome.{Lengths, Outcome}
use Rattle.judge.specs.declared.Node.{Node}
use Rattle.decode.specs.declared.Answer.{Answer}
use Rattle.node_records.specs.Records.{zero_record, records_from, record_table}
use Rattle.read_records.specs.RecordOutcome.{RecordOutcome, with_records, record_outcome_at}
use Rattle.encode.specs.declared.Encoded.{Encoded}
use Rattle.encode_records.specs.RecordEncoding.{record_encoding, record_encoding_at}
use Rattle.own_records.specs.WrittenAgain.{after, again_from, written_again_at}

from_length : (table : List ℕ) (i n : ℕ) → length (records_from table i n) ≡ n
from_length table i zero = refl
from_length table i (suc n) = ap suc (from_length table (suc i) n)

few_records : (table : List ℕ) (n m : ℕ) → length (record_table table n m) ≡ m → n ≤ m
unfolding record_table
few_records table n m e =
    let a : length (records_from table 0 n ++ replicate (m - n) zero_record) ≡ length (records_from table 0 n) + length (replicate (m - n) zero_record) = length-append (records_from table 0 n) (replicate (m - n) zero_record) in
    let f : length (records_from table 0 n) ≡ n = from_length table 0 n in
    let z : length (replicate (m - n) zero_record) ≡ m - n = length-replicate (m - n) zero_record in
    by_numbers n m (length (records_from table 0 n ++ replicate (m - n) zero_record)) (length (records_from table 0 n)) (length (replicate (m - n) zero_record)) e a f z
  where
    by_numbers : (n m s f z : ℕ) → s ≡ m → s ≡ f + z → f ≡ n → z ≡ m - n → n ≤ m
    by_numbers n m s f z e a g h = omega (arith, e, a, g, h)

-- what a slice of the first n records asks
pub nodes_few : (r : Answer) (tokens nodes keys work : List ℕ) (records : List Node) (n m : ℕ) (o : Outcome) → record_outcome_at r tokens nodes records keys work ≡ with_records m o → n ≡ r.nodes → length records ≡ m → n ≤ m
nodes_few r tokens nodes keys work records n m o e d l =
    let count : r.nodes ≡ o.answer.nodes = ap (λ (x : RecordOutcome). x.answer.nodes) e in
    let table : records ≡ record_table o.nodes o.answer.nodes m = ap (λ (x : RecordOutcome). x.records) e in
    let few : o.answer.nodes ≤ m = few_records o.nodes o.answer.nodes m (ap length (sym table) ∙ l) in
    omega (arith, d, count, few)

-- the same of the records' own count
pub front_within : (r : Answer) (tokens nodes keys work : List ℕ) (records : List Node) (n m : ℕ) (o : Outcome) → record_outcome_at r tokens nodes records keys work ≡ with_records m o → n ≡ r.nodes → length records ≡ m → n ≤ length records
front_within r tokens nodes keys work records n m o e d l = let few : n ≤ m = nodes_few r tokens nodes keys work records n m o e d l in omega (arith, few, l)

pub both_are : (kind : ℕ) (script : List ℕ) (lengths : Lengths) (o : RecordOutcome) (r : Answer) (tokens nodes keys work : List ℕ) (records : List Node) (n : ℕ) (output : List ℕ) (r' : Encoded) (nodes' work' output' : List ℕ)
    → record_outcome_at r tokens nodes records keys work ≡ o → n ≡ r.nodes → length nodes ≡ lengths.nodes → length work ≡ lengths.work
    → record_encoding_at r' output' work' nodes' ≡ record_encoding kind (take n records) (length nodes) keys script (length work) output
    → written_again_at r' tokens nodes' keys work' output' ≡ again_from kind script lengths output o
both_are kind script lengths o r tokens nodes keys work records n output r' nodes' work' output' e d lx lw f =
    ap (after tokens keys) f
    ∙ ap (λ (k : ℕ). after tokens keys (record_encoding kind (take k records) (length nodes) keys script (length work) output)) d
    ∙ ap (λ (k : ℕ). after tokens keys (record_encoding kind (take r.nodes records) k keys script (length work) output)) lx
    ∙ ap (λ (k : ℕ). after tokens keys (record_encoding kind (take r.nodes records) lengths.nodes keys script k output)) lw
    ∙ ap (again_from kind script lengths output) e
