-- What `room` answers (crate lex, Room) as lengths of tables, and what is read whatever the tables' lengths. The theorems over these stand in proofs/RoomLaws.antt: what `room` answers is enough.
use Rattle.std.specs.Prelude.{Bool, List, ℕ, ◌+◌, ◌*◌}
use Rattle.lex.specs.Token.{Token}
use Rattle.standard.specs.Tree.{Tree, nil, ◌⊳◌}
use Rattle.standard.specs.Table.{node_cells, node_table, key_table}
use Rattle.standard.specs.Outcome.{Lengths, Outcome, refusing, accepting}

-- Definitions

-- the lengths of tables of the sizes that `room` answers for t tokens
abbrev pub lengths_for : ℕ → Lengths
lengths_for t = record { tokens = 3 * t; nodes = node_cells * (2 * t); keys = t; work = 8 * t + 2 }

-- what is read, whatever the tables' lengths: the tokens, steps and the tree, or a refusal's number, reason, place, tokens and steps
pub data Reading : Type 0 where
  reads : List Token → ℕ → Tree → Reading
  refuses : ℕ → ℕ → ℕ → ℕ → ℕ → Reading

-- a reading laid out in tables of these lengths
abbrev pub laid_out : Bool → Lengths → Reading → Outcome
laid_out segwit lengths (reads tokens steps t) = accepting lengths tokens steps (node_table segwit (t ⊳ nil)) (key_table (t ⊳ nil))
laid_out segwit lengths (refuses number reason place tokens steps) = refusing lengths number reason place tokens steps
