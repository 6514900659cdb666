-- The whole outcome of the encoder for callers who have node records (document 01, "Encoder"): from the script kind, the records, how long the flat table lent beside them is, the key table, the material, the work table's length and what the output held, the answer and what the three lent tables hold at the end. The flat table is scratch, so it ends zero as the work table does, and 17 is answered where the records don't fit it.
use Rattle.std.specs.Prelude.{Bool, List, map, ℕ, ◌*◌, ltb, leb, length, take}
use Rattle.tables.specs.Choose.{pick}
use Rattle.tables.specs.Tables.{zeros, flat}
use Rattle.standard.specs.Table.{node_cells}
use Rattle.judge.specs.declared.Node.{Node}
use Rattle.node_records.specs.Records.{numbers_of, written_over}
use Rattle.encoding.specs.Encoding as encoding
use Rattle.encoding.specs.Encoding.{Outcome, refusing, encoding_of}
use Rattle.encode.specs.declared.Encoded.{Encoded}
use Rattle.encode.specs.Encode.{answer_of}

pub record RecordEncoding : Type 0 where
  pub answer : encoding.Answer
  pub output : List ℕ
  pub work : List ℕ
  pub table : List ℕ

-- an outcome of the encoder, and the flat table that ends zero
abbrev pub with_table : ℕ → Outcome → RecordEncoding
with_table cells o = record { answer = o.answer; output = o.output; work = o.work; table = zeros cells }

-- a flat table of so many numbers lacks room for so many nodes
abbrev pub short : ℕ → ℕ → Bool
short cells nodes = ltb cells (node_cells * nodes)

-- the number answered then: "Order: 20; .." comes first here too
abbrev pub no_room : ℕ → ℕ
no_room kind = pick (leb kind 1) 17 20

-- the encoder's outcome on these nodes, lent in a flat table of so many numbers
unfoldable pub encoding_within : ℕ → List ℕ → Bool → ℕ → List ℕ → List ℕ → ℕ → List ℕ → RecordEncoding
encoding_within kind nodes lacking cells keys material work output =
    with_table cells (pick lacking (refusing output work (no_room kind) 0) (encoding_of kind nodes keys material work output))

abbrev pub record_encoding : ℕ → List Node → ℕ → List ℕ → List ℕ → ℕ → List ℕ → RecordEncoding
record_encoding kind records cells keys material work output =
    encoding_within kind (flat (map numbers_of records)) (short cells (length records)) cells keys material work output

-- an answer, and the tables with it
abbrev pub record_encoding_at : Encoded → List ℕ → List ℕ → List ℕ → RecordEncoding
record_encoding_at r output work table = record { answer = answer_of r; output = output; work = work; table = table }

-- a flat table with the records copied in, if they fit
abbrev pub copied_into : List Node → List ℕ → List ℕ
copied_into records table = pick (short (length table) (length records)) table (written_over records table)

-- the outcome on the first so many nodes of a flat table
abbrev pub front_encoding : ℕ → List ℕ → ℕ → List ℕ → List ℕ → ℕ → List ℕ → RecordEncoding
front_encoding kind table nodes keys material work output =
    encoding_within kind (take (node_cells * nodes) table) (short (length table) nodes) (length table) keys material work output
