-- The contracts of the exported entries: each is the contract of the function behind it (`decode::read`, `lex::lex`, `lex::room`), with the answer in a struct that C lays out too.
use Rattle.std.specs.Prelude.{◌≡◌, List, ℕ, ◌/◌, length, Ok, Err}
use Rattle.lex.specs.Script as lex
use Rattle.lex.specs.Script.{lex_of, table_of}
use Rattle.lex.specs.Room.{Ample}
use Rattle.standard.specs.Outcome as outcome
use Rattle.standard.specs.Outcome.{Outcome}
use Rattle.exports.specs.declared.Answer.{Answer}
use Rattle.exports.specs.declared.Lexed.{Lexed}
use Rattle.exports.specs.declared.Room.{Room}

-- the answer's seven numbers
abbrev pub answer_of : Answer → outcome.Answer
answer_of r =
    record {
      number = r.number;
      reason = r.reason;
      place = r.place;
      tokens = r.tokens;
      steps = r.steps;
      nodes = r.nodes;
      keys = r.keys;
    }

-- an answer of `read`, and the tables with it
abbrev pub outcome_at : Answer → List ℕ → List ℕ → List ℕ → List ℕ → Outcome
outcome_at r tokens nodes keys work = record { answer = answer_of r; tokens = tokens; nodes = nodes; keys = keys; work = work }

-- what `lex` answers: a refusal has no tokens
abbrev pub lexed_of : lex.Outcome → Lexed
lexed_of (lex.tokens ts) = record { number = 0; place = 0; tokens = length ts }
lexed_of (lex.refused number place) = record { number = number; place = place; tokens = 0 }

-- the answer of `lex`, and the whole table with it
abbrev pub Lexes : List ℕ → ℕ → Lexed → List ℕ → Type 0
Lexes script size r table = (r ≡ lexed_of (lex_of (size / 3) script)) × (table ≡ table_of size (lex_of (size / 3) script))

-- what `room` answers: after a refusal all sizes are 0
abbrev pub room_in : Ample → Room
room_in (Ok s) = record { number = 0; place = 0; tokens = s.tokens; nodes = s.nodes; keys = s.keys; work = s.work }
room_in (Err e) = record { number = e.number; place = e.place; tokens = 0; nodes = 0; keys = 0; work = 0 }
