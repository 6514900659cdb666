-- What the exported entries' contracts settle (document 01, "Pinned down"): any two outcomes that meet one are identical. Assumes nothing.
use Rattle.std.specs.Prelude.{◌≡◌, List, ℕ}
use Rattle.std.proofs.Common.{sym, ap, ◌∙◌}
use Rattle.lex.specs.Room.{room_of}
use Rattle.standard.specs.Outcome as outcome
use Rattle.standard.specs.Outcome.{Lengths, Outcome, outcome_of}
use Rattle.exports.specs.declared.Answer.{Answer}
use Rattle.exports.specs.declared.Lexed.{Lexed}
use Rattle.exports.specs.declared.Room.{Room}
use Rattle.exports.specs.Answers.{outcome_at, Lexes, room_in}

-- the answer with these seven numbers
abbrev answered : outcome.Answer → Answer
answered a =
    record {
      number = a.number;
      reason = a.reason;
      place = a.place;
      tokens = a.tokens;
      steps = a.steps;
      nodes = a.nodes;
      keys = a.keys;
    }

-- THEOREM: any two outcomes that meet the contract of `phagdrulis_read` are identical, the answer and every table
pub exported_read_unique : (kind : ℕ) (script : List ℕ) (lengths : Lengths) (r r' : Answer) (tokens nodes keys work tokens' nodes' keys' work' : List ℕ)
    → outcome_at r tokens nodes keys work ≡ outcome_of kind script lengths → outcome_at r' tokens' nodes' keys' work' ≡ outcome_of kind script lengths
    → (r ≡ r') × (tokens ≡ tokens') × (nodes ≡ nodes') × (keys ≡ keys') × (work ≡ work')
exported_read_unique kind script lengths r r' tokens nodes keys work tokens' nodes' keys' work' p q = (
  ap (λ (o : Outcome). answered o.answer) (p ∙ sym q),
  ap (λ (o : Outcome). o.tokens) (p ∙ sym q),
  ap (λ (o : Outcome). o.nodes) (p ∙ sym q),
  ap (λ (o : Outcome). o.keys) (p ∙ sym q),
  ap (λ (o : Outcome). o.work) (p ∙ sym q),
)

-- THEOREM: and any two of `phagdrulis_lex`
pub exported_lex_unique : (script : List ℕ) (size : ℕ) (r r' : Lexed) (table table' : List ℕ) → Lexes script size r table → Lexes script size r' table' → (r ≡ r') × (table ≡ table')
exported_lex_unique script size r r' table table' a b = (a.0 ∙ sym b.0, a.1 ∙ sym b.1)

-- THEOREM: and any two of `phagdrulis_room`
pub exported_room_unique : (script : List ℕ) (r r' : Room) → r ≡ room_in (room_of script) → r' ≡ room_in (room_of script) → r ≡ r'
exported_room_unique script r r' a b = a ∙ sym b
