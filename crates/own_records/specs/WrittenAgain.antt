-- The outcome of reading a script into records and of writing it again from those records (document 01, "Tokens to tree" and "Encoder"): the encoder is lent the records of the nodes that were read, the keys that the reading wrote, the script as material, and the flat table and the work table that the reading had.
use Rattle.std.specs.Prelude.{List, ℕ, take}
use Rattle.standard.specs.Outcome.{Lengths}
use Rattle.judge.specs.declared.Node.{Node}
use Rattle.encoding.specs.Encoding as encoding
use Rattle.encode.specs.declared.Encoded.{Encoded}
use Rattle.encode.specs.Encode.{answer_of}
use Rattle.read_records.specs.RecordOutcome.{RecordOutcome, record_outcome_of}
use Rattle.encode_records.specs.RecordEncoding.{RecordEncoding, record_encoding}

-- the encoder's answer and what every lent table holds at the end
pub record WrittenAgain : Type 0 where
  pub answer : encoding.Answer
  pub tokens : List ℕ
  pub nodes : List ℕ
  pub keys : List ℕ
  pub work : List ℕ
  pub output : List ℕ

-- the records of a reading's nodes, without the zero records behind them
abbrev pub nodes_read : RecordOutcome → List Node
nodes_read o = take o.answer.nodes o.records

-- tokens and keys stay as the reading left them; the rest is the encoder's
abbrev pub after : List ℕ → List ℕ → RecordEncoding → WrittenAgain
after tokens keys e = record { answer = e.answer; tokens = tokens; nodes = e.table; keys = keys; work = e.work; output = e.output }

abbrev pub again_from : ℕ → List ℕ → Lengths → List ℕ → RecordOutcome → WrittenAgain
again_from kind script lengths output o = after o.tokens o.keys (record_encoding kind (nodes_read o) lengths.nodes o.keys script lengths.work output)

abbrev pub written_again : ℕ → List ℕ → Lengths → ℕ → List ℕ → WrittenAgain
written_again kind script lengths records output = again_from kind script lengths output (record_outcome_of kind script lengths records)

-- an answer, and the tables with it
abbrev pub written_again_at : Encoded → List ℕ → List ℕ → List ℕ → List ℕ → List ℕ → WrittenAgain
written_again_at r tokens nodes keys work output = record { answer = answer_of r; tokens = tokens; nodes = nodes; keys = keys; work = work; output = output }
