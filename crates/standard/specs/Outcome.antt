-- The whole outcome of the reader (document 01, "When the desk says no"): from the script kind, the script and the four tables' lengths, the answer and what every table holds. The first in time wins: 20, 1, lexing, decoding, 18, 19.
use Rattle.std.specs.Prelude.{Bool, List, [], ◌∷◌, ◌++◌, map, ℕ, zero, suc, ◌+◌, ◌-◌, ◌*◌, ◌/◌, eqb, leb, length}
use Rattle.lex.specs.Token.{Token, lexeme}
use Rattle.lex.specs.Script as lex
use Rattle.lex.specs.Script.{lex_of, numbers}
use Rattle.tables.specs.Choose.{pick}
use Rattle.tables.specs.Tables.{zeros, flat}
use Rattle.standard.specs.Tree.{nil, ◌⊳◌}
use Rattle.standard.specs.Table.{Node, node_cells, cells, node_table, key_table}
use Rattle.standard.specs.Machine.{Limits, Refusal, Verdict, accepted, refused, Run, decode}

-- "Every answer of the reader gives number, reason, place, tokens, steps, nodes and keys"
pub record Answer : Type 0 where
  pub number : ℕ
  pub reason : ℕ
  pub place : ℕ
  pub tokens : ℕ
  pub steps : ℕ
  pub nodes : ℕ
  pub keys : ℕ

-- the lengths of the four lent tables: a token takes 3 numbers, a node 9, a key and a work entry one each
pub record Lengths : Type 0 where
  pub tokens : ℕ
  pub nodes : ℕ
  pub keys : ℕ
  pub work : ℕ

abbrev pub token_room : Lengths → ℕ
token_room lengths = lengths.tokens / 3

abbrev pub limits_of : Lengths → Limits
limits_of lengths = record { nodes = lengths.nodes / node_cells; keys = lengths.keys; work = lengths.work }

pub record Outcome : Type 0 where
  pub answer : Answer
  pub tokens : List ℕ
  pub nodes : List ℕ
  pub keys : List ℕ
  pub work : List ℕ

-- "After a refusal all lent tables are zero throughout"
abbrev pub refusing : Lengths → ℕ → ℕ → ℕ → ℕ → ℕ → Outcome
refusing lengths number reason place tokens steps =
    record {
      answer = record { number = number; reason = reason; place = place; tokens = tokens; steps = steps; nodes = 0; keys = 0 };
      tokens = zeros lengths.tokens;
      nodes = zeros lengths.nodes;
      keys = zeros lengths.keys;
      work = zeros lengths.work;
    }

-- "After acceptance tokens, nodes and keys fill the front, zeros the rest, and work is all zero"
abbrev pub accepting : Lengths → List Token → ℕ → List Node → List ℕ → Outcome
accepting lengths tokens steps nodes keys =
    record {
      answer = record { number = 0; reason = 0; place = 0; tokens = length tokens; steps = steps; nodes = length nodes; keys = length keys };
      tokens = flat (map numbers tokens) ++ zeros (lengths.tokens - 3 * length tokens);
      nodes = flat (map cells nodes) ++ zeros (lengths.nodes - node_cells * length nodes);
      keys = keys ++ zeros (lengths.keys - length keys);
      work = zeros lengths.work;
    }

-- the place of the token with so many before it, 0 if there is none
abbrev pub place_at : List Token → ℕ → ℕ
place_at [] i = 0
place_at (t ∷ ts) zero = t.place
place_at (t ∷ ts) (suc i) = place_at ts i

-- the column "Place": 0 for 9 and 19, else the refusal's token
abbrev pub place_of : List Token → Refusal → ℕ
place_of tokens r = pick (eqb r.number 9) 0 (pick (eqb r.number 19) 0 (place_at tokens r.before))

abbrev pub judged : Bool → Lengths → List Token → ℕ → Verdict → Outcome
judged segwit lengths tokens steps (accepted t) = accepting lengths tokens steps (node_table segwit (t ⊳ nil)) (key_table (t ⊳ nil))
judged segwit lengths tokens steps (refused r) = refusing lengths r.number r.reason (place_of tokens r) (length tokens) steps

abbrev pub decoded : Bool → Lengths → List Token → Run → Outcome
decoded segwit lengths tokens run = judged segwit lengths tokens run.steps run.verdict

-- "tokens (0 if lexing failed), steps (both 0 after 20 or 1 too)"
abbrev pub lexed : Bool → Lengths → List ℕ → lex.Outcome → Outcome
lexed segwit lengths script (lex.refused number place) = refusing lengths number 0 place 0 0
lexed segwit lengths script (lex.tokens tokens) = decoded segwit lengths tokens (decode segwit (limits_of lengths) (map (lexeme script) tokens))

-- kind 0 is segwit, kind 1 tapscript; `lex_of` refuses more than 10,000 bytes with 1
unfoldable pub outcome_of : ℕ → List ℕ → Lengths → Outcome
outcome_of kind script lengths =
    pick (leb kind 1) (lexed (eqb kind 0) lengths script (lex_of (token_room lengths) script)) (refusing lengths 20 0 0 0 0)

-- "For b bytes these are ample: 2b tokens, 4b nodes, b keys, 16b + 2 work entries"
abbrev pub ample_for : ℕ → Lengths
ample_for b = record { tokens = 3 * (2 * b); nodes = node_cells * (4 * b); keys = b; work = 16 * b + 2 }
