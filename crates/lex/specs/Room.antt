-- The sizes of tables that are ample for one script, by its number of tokens: t tokens, 2t nodes, t keys and 8t + 2 work entries; or the refusal that lexing it gives.
use Rattle.std.specs.Prelude.{List, ℕ, ◌+◌, ◌*◌, length, Result, Ok, Err}
use Rattle.lex.specs.declared.Refused.{Refused}
use Rattle.lex.specs.declared.Sizes.{Sizes}
use Rattle.lex.specs.Script.{Outcome, tokens, refused, refusal, lex_of}

-- what `room` answers: sizes, or the refusal
abbrev pub Ample : Type 0
Ample = Result Sizes Refused

abbrev pub sizes_for : ℕ → Ample
sizes_for t = Ok (record { tokens = t; nodes = 2 * t; keys = t; work = 8 * t + 2 })

abbrev pub room_for : Outcome → Ample
room_for (tokens ts) = sizes_for (length ts)
room_for (refused number place) = Err (refusal number place)

-- no script gives more than two tokens a byte
unfoldable pub room_of : List ℕ → Ample
room_of script = room_for (lex_of (2 * length script) script)
