-- The flat table with the records copied in, and the outcome on its front. Assumes nothing.
-- Why: a record has nine numbers, so the front of nine times as many numbers as there are records is just theirs.
use mathlib.Core.Path.{◌≡◌, refl, sym, ap, ◌∙◌}
use mathlib.Core.Bool.{Bool, true, false}
use mathlib.Core.List.{List, map}
use Prim.Native.Nat.{ℕ, ◌*◌, ◌/◌, ◌≤◌, ◌<◌}
use native.Mathlib.Omega.{arith}
use lib.Dec.{ltb}
use lib.ListN.{length, take, drop, length-map}
use lib.Seq.{take_at, length-take-le}
use borrow.Author.Tests.{ltb-true, ltb-false, lt-ltb, le-ltb, lt-leb, le-leb}
use Rattle.tables.specs.Choose.{pick}
use Rattle.tables.specs.Tables.{zeros, flat}
use Rattle.tables.proofs.FlatLaws.{strided_map, flat_length}
use Rattle.judge.specs.declared.Node.{Node}
use Rattle.node_records.specs.Records.{numbers_of, written_over}
use Rattle.encoding.specs.Encoding as encoding
use Rattle.encoding.specs.Encoding.{encoding_of}
use Rattle.encode.specs.declared.Encoded.{Encoded}
use Rattle.encode.specs.Encode.{answer, answer_of, outcome_at}
use Rattle.encode_records.specs.RecordEncoding.{with_table, short, no_room, encoding_within, record_encoding, record_encoding_at, copied_into, front_encoding}

-- `too_short` divides, so that nothing overflows
pub by_division : (cells nodes : ℕ) → ltb (cells / 9) nodes ≡ short cells nodes
by_division cells nodes = by_test (ltb (cells / 9) nodes) refl
  where
    by_test : (b : Bool) → ltb (cells / 9) nodes ≡ b → ltb (cells / 9) nodes ≡ ltb cells (9 * nodes)
    by_test true e =
        let h : cells / 9 < nodes = ltb-true (cells / 9) nodes e in
        e ∙ sym (lt-ltb cells (9 * nodes) (omega (arith, h)))
    by_test false e =
        let h : nodes ≤ cells / 9 = ltb-false (cells / 9) nodes e in
        e ∙ sym (le-ltb cells (9 * nodes) (omega (arith, h)))

-- what is known where it said no
pub fits_of : (cells nodes : ℕ) (t : Bool) → t ≡ short cells nodes → t ≡ false → 9 * nodes ≤ cells
fits_of cells nodes t s f = ltb-false cells (9 * nodes) (sym s ∙ f)

pub front_length : (table : List ℕ) (nodes : ℕ) (t : Bool) → t ≡ short (length table) nodes → t ≡ false → 9 * nodes ≡ length (take (9 * nodes) table)
front_length table nodes t s f = sym (length-take-le (9 * nodes) table (fits_of (length table) nodes t s f))

-- `no_room`

pub unknown_first : (kind : ℕ) → 1 < kind → answer 20 0 0 ≡ answer (no_room kind) 0 0
unknown_first kind h = ap (λ (b : Bool). answer (pick b 17 20) 0 0) (sym (lt-leb kind 1 h))

pub known_kind : (kind : ℕ) → kind ≤ 1 → answer 17 0 0 ≡ answer (no_room kind) 0 0
known_kind kind h = ap (λ (b : Bool). answer (pick b 17 20) 0 0) (sym (le-leb kind 1 h))

-- `copy_fitting`

pub not_copied : (records : List Node) (table : List ℕ) (t : Bool) → t ≡ short (length table) (length records) → t ≡ true → table ≡ copied_into records table
not_copied records table t s f = ap (λ (b : Bool). pick b table (written_over records table)) (sym f ∙ s)

pub copied : (records : List Node) (table after : List ℕ) (t : Bool) → t ≡ short (length table) (length records) → t ≡ false → after ≡ written_over records table → after ≡ copied_into records table
copied records table after t s f w = w ∙ ap (λ (b : Bool). pick b table (written_over records table)) (sym f ∙ s)

-- `encode_front`

pub refused_front : (kind : ℕ) (table : List ℕ) (nodes : ℕ) (keys material work output : List ℕ) (r : Encoded) (table' work' : List ℕ) (t : Bool)
    → t ≡ short (length table) nodes → t ≡ true → answer_of r ≡ answer (no_room kind) 0 0 → table' ≡ zeros (length table) → work' ≡ zeros (length work)
    → record_encoding_at r output work' table' ≡ front_encoding kind table nodes keys material (length work) output
unfolding encoding_within
refused_front kind table nodes keys material work output r table' work' t s f a c w =
    ap (λ (x : List ℕ). record_encoding_at r output work' x) c
    ∙ ap (λ (x : List ℕ). record_encoding_at r output x (zeros (length table))) w
    ∙ ap (λ (x : encoding.Answer). record { answer = x; output = output; work = zeros (length work); table = zeros (length table) }) a
    ∙ ap (λ (b : Bool). encoding_within kind (take (9 * nodes) table) b (length table) keys material (length work) output) (sym f ∙ s)

pub encoded_front : (kind : ℕ) (table : List ℕ) (nodes : ℕ) (keys material work output : List ℕ) (r : Encoded) (table' work' output' : List ℕ) (t : Bool)
    → t ≡ short (length table) nodes → t ≡ false → outcome_at r output' work' ≡ encoding_of kind (take (9 * nodes) table) keys material (length work) output → table' ≡ zeros (length table)
    → record_encoding_at r output' work' table' ≡ front_encoding kind table nodes keys material (length work) output
unfolding encoding_within
encoded_front kind table nodes keys material work output r table' work' output' t s f o c =
    ap (λ (x : List ℕ). record_encoding_at r output' work' x) c
    ∙ ap (with_table (length table)) o
    ∙ ap (λ (b : Bool). encoding_within kind (take (9 * nodes) table) b (length table) keys material (length work) output) (sym f ∙ s)

-- `encode_records`: the front of the table with the records copied in is their numbers

numbers_length : (records : List Node) → length (flat (map numbers_of records)) ≡ 9 * length records
numbers_length records = flat_length 9 (map numbers_of records) (strided_map 9 numbers_of (λ r. refl) records) ∙ ap (λ (k : ℕ). 9 * k) (length-map records numbers_of)

written_front : (records : List Node) (table : List ℕ) → take (9 * length records) (written_over records table) ≡ flat (map numbers_of records)
unfolding written_over
written_front records table = take_at (flat (map numbers_of records)) (drop (9 * length records) table) (9 * length records) (numbers_length records)

pub record_front : (kind : ℕ) (records : List Node) (table after keys material : List ℕ) (work : ℕ) (output : List ℕ) → after ≡ copied_into records table → length after ≡ length table
    → front_encoding kind after (length records) keys material work output ≡ record_encoding kind records (length table) keys material work output
unfolding encoding_within
record_front kind records table after keys material work output c l =
    ap (λ (m : ℕ). encoding_within kind (take (9 * length records) after) (short m (length records)) m keys material work output) l ∙ by_test (short (length table) (length records)) refl
  where
    by_test : (b : Bool) → short (length table) (length records) ≡ b
        → encoding_within kind (take (9 * length records) after) (short (length table) (length records)) (length table) keys material work output ≡ record_encoding kind records (length table) keys material work output
    by_test true e =
        ap (λ (b : Bool). encoding_within kind (take (9 * length records) after) b (length table) keys material work output) e
        ∙ sym (ap (λ (b : Bool). encoding_within kind (flat (map numbers_of records)) b (length table) keys material work output) e)
    by_test false e =
        let w : after ≡ written_over records table = c ∙ ap (λ (b : Bool). pick b table (written_over records table)) e in
        ap (λ (front : List ℕ). encoding_within kind front (short (length table) (length records)) (length table) keys material work output) (ap (take (9 * length records)) w ∙ written_front records table)
