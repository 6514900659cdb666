-- The contract of `encode`: its answer, the output and the work table at exit, as one outcome, to be held against `encoding_of` of crate `encoding`.
use Rattle.std.specs.Prelude.{List, ℕ}
use Rattle.encoding.specs.Encoding as encoding
use Rattle.encoding.specs.Encoding.{Outcome}
use Rattle.encode.specs.declared.Encoded.{Encoded}

-- a number, a reason and how many bytes; the place is always 0
abbrev pub answer : ℕ → ℕ → ℕ → encoding.Answer
answer number reason bytes = record { number = number; reason = reason; place = 0; bytes = bytes }

-- the answer's four numbers
abbrev pub answer_of : Encoded → encoding.Answer
answer_of r = record { number = r.number; reason = r.reason; place = r.place; bytes = r.bytes }

-- an answer, and the tables with it
abbrev pub outcome_at : Encoded → List ℕ → List ℕ → Outcome
outcome_at r output work = record { answer = answer_of r; output = output; work = work }
