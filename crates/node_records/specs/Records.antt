-- The node table as records (document 01, "Tokens to tree": "A node holds kind; number; count; place; size; base, input, d, u"): a node's record, its nine numbers, and a table of records held against the flat table, which has nine numbers for a node.
use Rattle.std.specs.Prelude.{List, [], ◌∷◌, ◌++◌, map, ℕ, zero, suc, ◌-◌, ◌*◌, leb, length, drop, replicate}
use Rattle.tables.specs.Choose.{pick}
use Rattle.tables.specs.Tables.{flat}
use Rattle.standard.specs.Table as standard
use Rattle.standard.specs.Table.{node_cells, cells}
use Rattle.judge.specs.declared.Node.{Node}
use Rattle.judge.specs.NodeTable.{node_at, node_of}

-- the record of a node; `node_of` is the node of a record
abbrev pub record_of : standard.Node → Node
record_of n =
    record { kind = n.kind; number = n.number; count = n.count; place = n.place; size = n.size; base = n.base; input = n.input; d = n.d; u = n.u }

-- a record's nine numbers, in 01's order
abbrev pub numbers_of : Node → List ℕ
numbers_of r = cells (node_of r)

-- the record of a cleared place
abbrev pub zero_record : Node
zero_record = record { kind = 0; number = 0; count = 0; place = 0; size = 0; base = 0; input = 0; d = 0; u = 0 }

-- n records of a flat table, from number i on
abbrev pub records_from : List ℕ → ℕ → ℕ → List Node
records_from table i zero = []
records_from table i (suc n) = record_of (node_at table i) ∷ records_from table (suc i) n

-- "nodes fill the front, zeros the rest": m records, of which the first n are those of the flat table
unfoldable pub record_table : List ℕ → ℕ → ℕ → List Node
record_table table n m = records_from table 0 n ++ replicate (m - n) zero_record

-- record number i of such a table
unfoldable pub record_at : List ℕ → ℕ → ℕ → Node
record_at table n i = pick (leb n i) zero_record (record_of (node_at table i))

-- a flat table whose front holds the records' numbers, one record after the other
unfoldable pub written_over : List Node → List ℕ → List ℕ
written_over records table = flat (map numbers_of records) ++ drop (node_cells * length records) table
