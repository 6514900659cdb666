-- What the contract of `written_again` settles (document 01, "Pinned down"), and which nodes the encoder is lent. Assumes nothing.
-- Why: the contract is one equation whose right side knows the script kind, the script, the tables' lengths and what the output held. After acceptance the records are those of the nodes with zero records behind, so as many of them as there are nodes are just the nodes' records, and their numbers are those of the flat table.
use Rattle.std.specs.Prelude.{◌≡◌, refl, List, [], ◌∷◌, map, ℕ, ◌-◌, ◌*◌, ◌≤◌, length, take, replicate}
use Rattle.std.proofs.Common.{sym, ap, ◌∙◌, arith, take_at}
use Rattle.std.proofs.lemmas.List.{length-map}
use Rattle.tables.specs.Tables.{flat}
use Rattle.lex.specs.Token.{Token}
use Rattle.standard.specs.Table as standard
use Rattle.standard.specs.Table.{cells}
use Rattle.standard.specs.Outcome.{Lengths, refusing, accepting}
use Rattle.encoding.specs.Encoding as encoding
use Rattle.encoding.specs.Encoding.{encoding_of}
use Rattle.encode.specs.declared.Encoded.{Encoded}
use Rattle.node_records.specs.Records.{record_of, numbers_of, zero_record}
use Rattle.read_records.specs.RecordOutcome.{widened, with_records}
use Rattle.read_records.specs.RecordOutcomeTheorems.{accepted_records}
use Rattle.encode_records.specs.RecordEncoding.{with_table, record_encoding}
use Rattle.encode_records.specs.RecordEncodingTheorems.{enough_room}
use Rattle.own_records.specs.WrittenAgain.{WrittenAgain, nodes_read, written_again, written_again_at}

-- the answer with these four numbers
abbrev answered : encoding.Answer → Encoded
answered a = record { number = a.number; reason = a.reason; place = a.place; bytes = a.bytes }

-- THEOREM: any two outcomes that meet the contract are identical, the answer and every table
pub written_again_unique : (kind : ℕ) (script : List ℕ) (lengths : Lengths) (m : ℕ) (before : List ℕ) (r r' : Encoded) (tokens tokens' nodes nodes' keys keys' work work' output output' : List ℕ)
    → written_again_at r tokens nodes keys work output ≡ written_again kind script lengths m before → written_again_at r' tokens' nodes' keys' work' output' ≡ written_again kind script lengths m before
    → (r ≡ r') × (tokens ≡ tokens') × (nodes ≡ nodes') × (keys ≡ keys') × (work ≡ work') × (output ≡ output')
written_again_unique kind script lengths m before r r' tokens tokens' nodes nodes' keys keys' work work' output output' p q = (
  ap (λ (o : WrittenAgain). answered o.answer) (p ∙ sym q),
  ap (λ (o : WrittenAgain). o.tokens) (p ∙ sym q),
  ap (λ (o : WrittenAgain). o.nodes) (p ∙ sym q),
  ap (λ (o : WrittenAgain). o.keys) (p ∙ sym q),
  ap (λ (o : WrittenAgain). o.work) (p ∙ sym q),
  ap (λ (o : WrittenAgain). o.output) (p ∙ sym q),
)

-- THEOREM: after acceptance the encoder is lent the nodes' records, without a zero record; after a refusal none
pub accepted_nodes : (lengths : Lengths) (tokens : List Token) (steps : ℕ) (nodes : List standard.Node) (keys : List ℕ) (more m : ℕ) → nodes_read (with_records m (widened more (accepting lengths tokens steps nodes keys))) ≡ map record_of nodes
accepted_nodes lengths tokens steps nodes keys more m =
    ap (take (length nodes)) (accepted_records lengths tokens steps nodes keys more m) ∙ take_at (map record_of nodes) (replicate (m - length nodes) zero_record) (length nodes) (length-map nodes record_of)

pub refused_nodes : (lengths : Lengths) (number reason place tokens steps more m : ℕ) → nodes_read (with_records m (widened more (refusing lengths number reason place tokens steps))) ≡ []
refused_nodes lengths number reason place tokens steps more m = refl

numbers_back : (nodes : List standard.Node) → map numbers_of (map record_of nodes) ≡ map cells nodes
numbers_back [] = refl
numbers_back (n ∷ ns) = ap (λ (l : List (List ℕ)). cells n ∷ l) (numbers_back ns)

-- THEOREM: with room for the nodes, the outcome on their records is the encoder's on the nodes' numbers
pub encodes_the_nodes : (kind : ℕ) (nodes : List standard.Node) (size : ℕ) (keys material : List ℕ) (work : ℕ) (output : List ℕ) → 9 * length nodes ≤ size
    → record_encoding kind (map record_of nodes) size keys material work output ≡ with_table size (encoding_of kind (flat (map cells nodes)) keys material work output)
encodes_the_nodes kind nodes size keys material work output h =
    enough_room kind (map record_of nodes) size keys material work output (fits (length (map record_of nodes)) (length-map nodes record_of))
    ∙ ap (λ (l : List (List ℕ)). with_table size (encoding_of kind (flat l) keys material work output)) (numbers_back nodes)
  where
    fits : (k : ℕ) → k ≡ length nodes → 9 * k ≤ size
    fits k e = omega (arith, e, h)
