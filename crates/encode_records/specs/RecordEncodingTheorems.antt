-- What the contract of `encode_records` settles (document 01, "Pinned down"). Assumes nothing.
-- Why: the contract is one equation whose right side knows the lent bytes, numbers and records, the lengths of the two scratch tables and what the output held; so two outcomes that meet it are equal, and what the scratch tables held before can't enter.
use Rattle.std.specs.Prelude.{◌≡◌, Bool, List, map, ℕ, ◌*◌, ◌≤◌, ◌<◌, length}
use Rattle.std.proofs.Common.{sym, ap, ◌∙◌, lt-ltb, le-ltb}
use Rattle.tables.specs.Tables.{flat}
use Rattle.judge.specs.declared.Node.{Node}
use Rattle.node_records.specs.Records.{numbers_of}
use Rattle.encoding.specs.Encoding as encoding
use Rattle.encoding.specs.Encoding.{refusing, encoding_of}
use Rattle.encode.specs.declared.Encoded.{Encoded}
use Rattle.encode_records.specs.RecordEncoding.{RecordEncoding, with_table, no_room, encoding_within, record_encoding, record_encoding_at}

-- the answer with these four numbers
abbrev answered : encoding.Answer → Encoded
answered a = record { number = a.number; reason = a.reason; place = a.place; bytes = a.bytes }

-- THEOREM: any two outcomes that meet the contract are identical, the answer and every table
pub encode_records_unique : (kind : ℕ) (records : List Node) (cells : ℕ) (keys material : List ℕ) (room : ℕ) (before : List ℕ) (r r' : Encoded) (output output' work work' table table' : List ℕ)
    → record_encoding_at r output work table ≡ record_encoding kind records cells keys material room before → record_encoding_at r' output' work' table' ≡ record_encoding kind records cells keys material room before
    → (r ≡ r') × (output ≡ output') × (work ≡ work') × (table ≡ table')
encode_records_unique kind records cells keys material room before r r' output output' work work' table table' p q = (
  ap (λ (o : RecordEncoding). answered o.answer) (p ∙ sym q),
  ap (λ (o : RecordEncoding). o.output) (p ∙ sym q),
  ap (λ (o : RecordEncoding). o.work) (p ∙ sym q),
  ap (λ (o : RecordEncoding). o.table) (p ∙ sym q),
)

-- THEOREM: with room for the records, the outcome is the encoder's on their numbers
pub enough_room : (kind : ℕ) (records : List Node) (cells : ℕ) (keys material : List ℕ) (work : ℕ) (output : List ℕ) → 9 * length records ≤ cells
    → record_encoding kind records cells keys material work output ≡ with_table cells (encoding_of kind (flat (map numbers_of records)) keys material work output)
unfolding encoding_within
enough_room kind records cells keys material work output h =
    ap (λ (lacking : Bool). encoding_within kind (flat (map numbers_of records)) lacking cells keys material work output) (le-ltb cells (9 * length records) h)

-- THEOREM: without it nothing is written: the answer is 17, or 20 where the script kind is unknown
pub no_room_lem : (kind : ℕ) (records : List Node) (cells : ℕ) (keys material : List ℕ) (work : ℕ) (output : List ℕ) → cells < 9 * length records
    → record_encoding kind records cells keys material work output ≡ with_table cells (refusing output work (no_room kind) 0)
unfolding encoding_within
no_room_lem kind records cells keys material work output h =
    ap (λ (lacking : Bool). encoding_within kind (flat (map numbers_of records)) lacking cells keys material work output) (lt-ltb cells (9 * length records) h)
