-- What a table of records holds, held against the nodes of the flat table. Assumes nothing.
-- Why: node i of a flat table is the nine numbers from 9 * i on (node_store's NodeLaws), and a record has the same nine.
use Rattle.std.specs.Prelude.{◌≡◌, refl, List, [], ◌∷◌, ◌++◌, map, ℕ, suc, ◌+◌, ◌-◌, ◌<◌, length, get_or, replicate}
use Rattle.std.proofs.Common.{sym, ap, ◌∙◌, arith}
use Rattle.tables.specs.Tables.{flat}
use Rattle.standard.specs.Table as standard
use Rattle.standard.specs.Table.{cells}
use Rattle.judge.specs.declared.Node.{Node}
use Rattle.judge.specs.Nodes.{no_node}
use Rattle.judge.specs.NodeTable.{node_at}
use Rattle.judge.specs.NodeTableLaws.{node_read}
use Rattle.node_records.specs.Records.{record_of, zero_record, records_from, record_table}

records_from_lem : (table : List ℕ) (i : ℕ) (nodes : List standard.Node) → ((j : ℕ) → j < length nodes → node_at table (i + j) ≡ get_or nodes j no_node) → records_from table i (length nodes) ≡ map record_of nodes
records_from_lem table i [] at = refl
records_from_lem table i (n ∷ ns) at =
    let here : i + 0 ≡ i = omega arith in
    let first : node_at table i ≡ n = ap (node_at table) (sym here) ∙ at 0 (omega arith) in
    ap (λ (x : standard.Node). record_of x ∷ records_from table (suc i) (length ns)) first
    ∙ ap (λ (l : List Node). record_of n ∷ l) (records_from_lem table (suc i) ns (λ j h. let next : suc i + j ≡ i + suc j = omega arith in ap (node_at table) next ∙ at (suc j) (omega arith)))

-- THEOREM: out of a flat table whose front holds these nodes, their records are copied, and zero records fill the rest
pub records_of_nodes : (nodes : List standard.Node) (rest : List ℕ) (m : ℕ) → record_table (flat (map cells nodes) ++ rest) (length nodes) m ≡ map record_of nodes ++ replicate (m - length nodes) zero_record
unfolding record_table
records_of_nodes nodes rest m =
    ap (λ (l : List Node). l ++ replicate (m - length nodes) zero_record)
    (records_from_lem (flat (map cells nodes) ++ rest) 0 nodes (λ j h. let here : 0 + j ≡ j = omega arith in ap (node_at (flat (map cells nodes) ++ rest)) here ∙ node_read nodes rest j h))

-- THEOREM: with no nodes, as after a refusal, all are zero records
pub no_records : (table : List ℕ) (m : ℕ) → record_table table 0 m ≡ replicate m zero_record
unfolding record_table
no_records table m = let e : m - 0 ≡ m = omega arith in ap (λ (k : ℕ). replicate k zero_record) e
