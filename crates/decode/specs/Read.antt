-- The contract of `read`: its answer and the four tables at exit, as one outcome, to be held against `outcome_of` of crate `standard`, which computes it from the script kind, the script and the tables' lengths alone.
use Rattle.std.specs.Prelude.{List, ℕ, ◌+◌, ◌*◌, eqb, leb, length, get_or}
use Rattle.tables.specs.Choose.{pick}
use Rattle.standard.specs.Outcome as outcome
use Rattle.standard.specs.Outcome.{Lengths, Outcome}
use Rattle.decode.specs.declared.Answer.{Answer}

-- the answer's seven numbers
abbrev pub answer_of : Answer → outcome.Answer
answer_of r =
    record {
      number = r.number;
      reason = r.reason;
      place = r.place;
      tokens = r.tokens;
      steps = r.steps;
      nodes = r.nodes;
      keys = r.keys;
    }

-- the lengths of the lent tables
abbrev pub lengths_of : List ℕ → List ℕ → List ℕ → List ℕ → Lengths
lengths_of tokens nodes keys work = record { tokens = length tokens; nodes = length nodes; keys = length keys; work = length work }

-- an answer, and the tables with it
abbrev pub outcome_at : Answer → List ℕ → List ℕ → List ℕ → List ℕ → Outcome
outcome_at r tokens nodes keys work = record { answer = answer_of r; tokens = tokens; nodes = nodes; keys = keys; work = work }

-- for the proof: a refusal's answer, and the place of its token read off the token table

abbrev pub refused_answer : ℕ → ℕ → ℕ → ℕ → ℕ → outcome.Answer
refused_answer number reason place tokens steps =
    record { number = number; reason = reason; place = place; tokens = tokens; steps = steps; nodes = 0; keys = 0 }

abbrev pub place_in : List ℕ → ℕ → ℕ → ℕ → ℕ
place_in table count number left = pick (eqb number 9) 0 (pick (eqb number 19) 0 (pick (leb count left) 0 (get_or table (3 * left + 2) 0)))
