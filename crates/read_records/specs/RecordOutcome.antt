-- The whole outcome of the reader for callers who lend a slice of node records (document 01, "When the desk says no"): from the script kind, the script, the lengths of the four flat tables and how many records there are, the answer and what every table holds. The room for nodes is the smaller of the two, so 15 is answered where the nodes don't fit the records.
use Rattle.std.specs.Prelude.{List, ◌++◌, ℕ, ◌-◌, ◌*◌, ◌/◌, ltb}
use Rattle.tables.specs.Choose.{pick}
use Rattle.tables.specs.Tables.{zeros}
use Rattle.standard.specs.Table.{node_cells}
use Rattle.standard.specs.Outcome as outcome
use Rattle.standard.specs.Outcome.{Lengths, Outcome, outcome_of}
use Rattle.judge.specs.declared.Node.{Node}
use Rattle.decode.specs.declared.Answer.{Answer}
use Rattle.decode.specs.Read.{answer_of}
use Rattle.node_records.specs.Records.{record_table}

pub record RecordOutcome : Type 0 where
  pub answer : outcome.Answer
  pub tokens : List ℕ
  pub nodes : List ℕ
  pub records : List Node
  pub keys : List ℕ
  pub work : List ℕ

-- how many nodes a flat table of so many numbers and so many records both have room for
abbrev pub node_room : ℕ → ℕ → ℕ
node_room cells records = pick (ltb records (cells / node_cells)) records (cells / node_cells)

-- how many numbers of the flat table the decoder is lent, and with which lengths
abbrev pub front_of : Lengths → ℕ → ℕ
front_of lengths records = node_cells * node_room lengths.nodes records

abbrev pub within : Lengths → ℕ → Lengths
within lengths front = record { tokens = lengths.tokens; nodes = front; keys = lengths.keys; work = lengths.work }

-- an outcome with so many zeros more behind the nodes
abbrev pub widened : ℕ → Outcome → Outcome
widened more o = record { answer = o.answer; tokens = o.tokens; nodes = o.nodes ++ zeros more; keys = o.keys; work = o.work }

-- the flat tables, with room for no more nodes than there are records
unfoldable pub outcome_within : ℕ → List ℕ → Lengths → ℕ → Outcome
outcome_within kind script lengths records = widened (lengths.nodes - front_of lengths records) (outcome_of kind script (within lengths (front_of lengths records)))

-- "nodes fill the front, zeros the rest", as records
abbrev pub with_records : ℕ → Outcome → RecordOutcome
with_records records o =
    record { answer = o.answer; tokens = o.tokens; nodes = o.nodes; records = record_table o.nodes o.answer.nodes records; keys = o.keys; work = o.work }

abbrev pub record_outcome_of : ℕ → List ℕ → Lengths → ℕ → RecordOutcome
record_outcome_of kind script lengths records = with_records records (outcome_within kind script lengths records)

-- an answer, and the tables with it
abbrev pub record_outcome_at : Answer → List ℕ → List ℕ → List Node → List ℕ → List ℕ → RecordOutcome
record_outcome_at r tokens nodes records keys work = record { answer = answer_of r; tokens = tokens; nodes = nodes; records = records; keys = keys; work = work }
