-- What the contract of `read` settles (document 01, "Pinned down"). Assumes nothing.
-- Why: the contract is one equation whose right side knows the script kind, the script and the tables' lengths alone; so two outcomes that meet it are equal, and what a table held before the call can't enter.
use Rattle.std.specs.Prelude.{◌≡◌, List, ℕ}
use Rattle.std.proofs.Common.{sym, ap, ◌∙◌}
use Rattle.standard.specs.Outcome as outcome
use Rattle.standard.specs.Outcome.{Lengths, Outcome, outcome_of}
use Rattle.decode.specs.declared.Answer.{Answer}
use Rattle.decode.specs.Read.{outcome_at}

-- the answer with these seven numbers
abbrev answered : outcome.Answer → Answer
answered a =
    record {
      number = a.number;
      reason = a.reason;
      place = a.place;
      tokens = a.tokens;
      steps = a.steps;
      nodes = a.nodes;
      keys = a.keys;
    }

-- THEOREM: any two outcomes that meet the contract are identical, the answer and every table
pub read_outcome_unique : (kind : ℕ) (script : List ℕ) (lengths : Lengths) (r r' : Answer) (tokens nodes keys work tokens' nodes' keys' work' : List ℕ)
    → outcome_at r tokens nodes keys work ≡ outcome_of kind script lengths → outcome_at r' tokens' nodes' keys' work' ≡ outcome_of kind script lengths
    → (r ≡ r') × (tokens ≡ tokens') × (nodes ≡ nodes') × (keys ≡ keys') × (work ≡ work')
read_outcome_unique kind script lengths r r' tokens nodes keys work tokens' nodes' keys' work' p q = (
  ap (λ (o : Outcome). answered o.answer) (p ∙ sym q),
  ap (λ (o : Outcome). o.tokens) (p ∙ sym q),
  ap (λ (o : Outcome). o.nodes) (p ∙ sym q),
  ap (λ (o : Outcome). o.keys) (p ∙ sym q),
  ap (λ (o : Outcome). o.work) (p ∙ sym q),
)
