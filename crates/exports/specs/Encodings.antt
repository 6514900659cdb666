-- The contracts of the encoder's exported entries: each is the contract of the function behind it (`encode::encode`, `leaf_part::leaf_part`), with the answer in a struct that C lays out too.
use Rattle.std.specs.Prelude.{List, ℕ, eqb, length}
use Rattle.tables.specs.Choose.{pick}
use Rattle.encoding.specs.Encoding as encoding
use Rattle.encoding.specs.Encoding.{Outcome}
use Rattle.exports.specs.declared.Encoded.{Encoded}
use Rattle.exports.specs.declared.Part.{Part}

-- the answer's four numbers
abbrev pub encoded_answer : Encoded → encoding.Answer
encoded_answer r = record { number = r.number; reason = r.reason; place = r.place; bytes = r.bytes }

-- an answer of `encode`, and the tables with it
abbrev pub encoded_at : Encoded → List ℕ → List ℕ → Outcome
encoded_at r output work = record { answer = encoded_answer r; output = output; work = work }

-- a part that begins at this place of the script: where it starts and how many bytes it has, both 0 where it is empty
abbrev pub part_in : ℕ → List ℕ → Part
part_in place part = record { start = pick (eqb (length part) 0) 0 place; bytes = length part }
