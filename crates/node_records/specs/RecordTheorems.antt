-- A record and its nine numbers say the same; and what the contracts of the functions on records settle. Assumes nothing.
use Rattle.std.specs.Prelude.{◌≡◌, refl, List, ℕ, length, set, get_or}
use Rattle.std.proofs.Common.{sym, ap, ◌∙◌}
use Rattle.tables.specs.Tables.{zeros}
use Rattle.standard.specs.Table as standard
use Rattle.judge.specs.declared.Node.{Node}
use Rattle.judge.specs.NodeTable.{node_at, node_of}
use Rattle.node_records.specs.Records.{record_of, numbers_of, zero_record, record_at, record_table, written_over}

-- THEOREM: a node and its record are the same nine fields
pub record_of_node : (r : Node) → record_of (node_of r) ≡ r
record_of_node r = refl

pub node_of_record : (n : standard.Node) → node_of (record_of n) ≡ n
node_of_record n = refl

-- THEOREM: a record is read off its nine numbers, so two records with the same numbers are the same
pub record_of_numbers : (r : Node) → record_of (node_at (numbers_of r) 0) ≡ r
record_of_numbers r = refl

pub numbers_settle : (r r' : Node) → numbers_of r ≡ numbers_of r' → r ≡ r'
numbers_settle r r' e = ap (λ (ns : List ℕ). record_of (node_at ns 0)) e

-- THEOREM: the zero record's numbers are nine zeros
pub zero_numbers : numbers_of zero_record ≡ zeros 9
zero_numbers = refl

-- THEOREM: any two outcomes of `zero_record`, of `put`, of `get` and of `clear` are identical
pub zero_record_unique : (r r' : Node) → r ≡ zero_record → r' ≡ zero_record → r ≡ r'
zero_record_unique r r' p q = p ∙ sym q

pub put_unique : (before after after' : List Node) (i : ℕ) (n : Node) → after ≡ set before i n → after' ≡ set before i n → after ≡ after'
put_unique before after after' i n p q = p ∙ sym q

pub get_unique : (records : List Node) (i : ℕ) (r r' : Node) → r ≡ get_or records i zero_record → r' ≡ get_or records i zero_record → r ≡ r'
get_unique records i r r' p q = p ∙ sym q

pub clear_unique : (before after after' : List Node) (i : ℕ) → after ≡ set before i zero_record → after' ≡ set before i zero_record → after ≡ after'
clear_unique before after after' i p q = p ∙ sym q

-- THEOREM: so are any two of `record_at`, of `copy_out` and of `copy_in`; what the records were before `copy_out` can't enter, but for how many they are
pub record_at_unique : (table : List ℕ) (n i : ℕ) (r r' : Node) → r ≡ record_at table n i → r' ≡ record_at table n i → r ≡ r'
record_at_unique table n i r r' p q = p ∙ sym q

pub copy_out_unique : (table : List ℕ) (n : ℕ) (before before' after after' : List Node) → length before ≡ length before'
    → after ≡ record_table table n (length before) → after' ≡ record_table table n (length before') → after ≡ after'
copy_out_unique table n before before' after after' l p q = p ∙ ap (record_table table n) l ∙ sym q

pub copy_in_unique : (records : List Node) (before after after' : List ℕ) → after ≡ written_over records before → after' ≡ written_over records before → after ≡ after'
copy_in_unique records before after after' p q = p ∙ sym q
