-- What the contract of `read_records` settles (document 01, "Pinned down"). Assumes nothing.
-- Why: the contract is one equation whose right side knows the script kind, the script, the flat tables' lengths and how many records there are alone; so two outcomes that meet it are equal, and what a table held before the call can't enter.
use Rattle.std.specs.Prelude.{◌≡◌, List, ◌++◌, map, ℕ, ◌-◌, ◌*◌, length, replicate}
use Rattle.std.proofs.Common.{sym, ap, ◌∙◌, append_assoc}
use Rattle.tables.specs.Tables.{zeros, flat}
use Rattle.lex.specs.Token.{Token}
use Rattle.standard.specs.Table as standard
use Rattle.standard.specs.Table.{node_cells, cells}
use Rattle.standard.specs.Outcome as outcome
use Rattle.standard.specs.Outcome.{Lengths, refusing, accepting}
use Rattle.judge.specs.declared.Node.{Node}
use Rattle.decode.specs.declared.Answer.{Answer}
use Rattle.node_records.specs.Records.{record_of, zero_record, record_table}
use Rattle.node_records.specs.TableTheorems.{records_of_nodes, no_records}
use Rattle.read_records.specs.RecordOutcome.{RecordOutcome, widened, with_records, record_outcome_of, record_outcome_at}

-- the answer with these seven numbers
abbrev answered : outcome.Answer → Answer
answered a =
    record {
      number = a.number;
      reason = a.reason;
      place = a.place;
      tokens = a.tokens;
      steps = a.steps;
      nodes = a.nodes;
      keys = a.keys;
    }

-- THEOREM: any two outcomes that meet the contract are identical, the answer and every table
pub read_records_outcome_unique : (kind : ℕ) (script : List ℕ) (lengths : Lengths) (m : ℕ) (r r' : Answer) (tokens nodes keys work tokens' nodes' keys' work' : List ℕ) (records records' : List Node)
    → record_outcome_at r tokens nodes records keys work ≡ record_outcome_of kind script lengths m → record_outcome_at r' tokens' nodes' records' keys' work' ≡ record_outcome_of kind script lengths m
    → (r ≡ r') × (tokens ≡ tokens') × (nodes ≡ nodes') × (records ≡ records') × (keys ≡ keys') × (work ≡ work')
read_records_outcome_unique kind script lengths m r r' tokens nodes keys work tokens' nodes' keys' work' records records' p q = (
  ap (λ (o : RecordOutcome). answered o.answer) (p ∙ sym q),
  ap (λ (o : RecordOutcome). o.tokens) (p ∙ sym q),
  ap (λ (o : RecordOutcome). o.nodes) (p ∙ sym q),
  ap (λ (o : RecordOutcome). o.records) (p ∙ sym q),
  ap (λ (o : RecordOutcome). o.keys) (p ∙ sym q),
  ap (λ (o : RecordOutcome). o.work) (p ∙ sym q),
)

-- THEOREM: after acceptance the records are those of the nodes, and zero records behind
pub accepted_records : (lengths : Lengths) (tokens : List Token) (steps : ℕ) (nodes : List standard.Node) (keys : List ℕ) (more m : ℕ)
    → (with_records m (widened more (accepting lengths tokens steps nodes keys))).records ≡ map record_of nodes ++ replicate (m - length nodes) zero_record
accepted_records lengths tokens steps nodes keys more m =
    ap (λ (table : List ℕ). record_table table (length nodes) m) (append_assoc (flat (map cells nodes)) (zeros (lengths.nodes - node_cells * length nodes)) (zeros more))
    ∙ records_of_nodes nodes (zeros (lengths.nodes - node_cells * length nodes) ++ zeros more) m

-- THEOREM: "After a refusal all lent tables are zero throughout": all are zero records
pub refused_records : (lengths : Lengths) (number reason place tokens steps more m : ℕ) → (with_records m (widened more (refusing lengths number reason place tokens steps))).records ≡ replicate m zero_record
refused_records lengths number reason place tokens steps more m = no_records (zeros lengths.nodes ++ zeros more) m
