-- A whole script's tokens or its refusal, and what the lent table holds: document 01, "Bytes to tokens" and "When the desk says no" (numbers 1 to 8).
use Rattle.std.specs.Prelude.{◌≡◌, Result, Ok, Err, List, [], ◌∷◌, ◌++◌, map, ℕ, zero, suc, ◌+◌, ◌-◌, ◌*◌, ◌/◌, leb, length, drop}
use Rattle.tables.specs.Choose.{pick}
use Rattle.tables.specs.Tables.{zeros, flat}
use Rattle.instruction.specs.Error.{error_number, Lexing}
use Rattle.instruction.specs.declared.Lexed.{Lexed}
use Rattle.instruction.specs.declared.Lexed.TheVariants.{One, Two}
use Rattle.lex.specs.declared.Refused.{Refused}
use Rattle.lex.specs.Token.{Token, token, VERIFY}
use Rattle.instruction.specs.Instruction.{instruction_of}

-- the most bytes that a script may have
unfoldable pub script_limit : ℕ
script_limit = 10000

-- the tokens, or a refusal's number and place
pub data Outcome : Type 0 where
  tokens : List Token → Outcome
  refused : ℕ → ℕ → Outcome

abbrev pub and_then : Token → Outcome → Outcome
and_then t (tokens ts) = tokens (t ∷ ts)
and_then t (refused number place) = refused number place

-- one instruction at `at`, with room for so many tokens more: 8 if its tokens don't all fit. onward is what follows it, by the room left, the instruction's size and the code of its last token
abbrev pub after : ℕ → ℕ → Lexing → (ℕ → ℕ → ℕ → Outcome) → Outcome
after room at (Ok (One code size number)) onward = pick (leb 1 room) (and_then (token code number at) (onward (room - 1) size code)) (refused 8 at)
after room at (Ok (Two code size)) onward =
    pick (leb 2 room) (and_then (token code 0 at) (and_then (token VERIFY 0 at) (onward (room - 2) size VERIFY))) (refused 8 at)
after room at (Err e) onward = refused (error_number e) at

-- the instructions of rest, which starts at `at`, after a token with the code `last`: at most so many, and no script has more of them than bytes
abbrev pub instructions : ℕ → ℕ → ℕ → ℕ → List ℕ → Outcome
instructions zero room at last rest = tokens []
instructions (suc most) room at last [] = tokens []
instructions (suc most) room at last (byte ∷ rest) =
    after room at (instruction_of (byte ∷ rest) last) (λ left size code. instructions most left (at + size) code (drop size (byte ∷ rest)))

-- 1 if the script is too long, else instruction by instruction
unfoldable pub lex_of : ℕ → List ℕ → Outcome
lex_of room script = pick (leb (length script) script_limit) (instructions (length script) room 0 0 script) (refused 1 0)

-- a token's three numbers
abbrev pub numbers : Token → List ℕ
numbers t = t.code ∷ t.number ∷ t.place ∷ []

-- a table of so many numbers: the tokens and then zeros, or nothing but zeros
abbrev pub table_of : ℕ → Outcome → List ℕ
table_of size (tokens ts) = flat (map numbers ts) ++ zeros (size - 3 * length ts)
table_of size (refused number place) = zeros size

-- what an instruction at a place gives, with the place of a refusal
abbrev pub placed : ℕ → Lexing → Result Lexed Refused
placed at (Ok x) = Ok x
placed at (Err e) = Err (record { number = error_number e; place = at })

-- what `lex` answers: how many tokens there are, or a refusal
abbrev pub Answer : Type 0
Answer = Result ℕ Refused

abbrev pub refusal : ℕ → ℕ → Refused
refusal number place = record { number = number; place = place }

abbrev pub answer_of : Outcome → Answer
answer_of (tokens ts) = Ok (length ts)
answer_of (refused number place) = Err (refusal number place)

-- document 01's number, place and tokens of an answer
pub record Numbers : Type 0 where
  pub number : ℕ
  pub place : ℕ
  pub tokens : ℕ

abbrev pub numbers_of : Answer → Numbers
numbers_of (Ok n) = record { number = 0; place = 0; tokens = n }
numbers_of (Err e) = record { number = e.number; place = e.place; tokens = 0 }

-- the contract of `lex`: from the script and the length of the table at entry alone, the answer and the whole table at exit
abbrev pub Lexes : List ℕ → ℕ → Answer → List ℕ → Type 0
Lexes script size r table = (r ≡ answer_of (lex_of (size / 3) script)) × (table ≡ table_of size (lex_of (size / 3) script))

-- for the proof of `lex`, which fills a cleared table and clears it again after a refusal: what a filled table holds
abbrev pub Fills : ℕ → Outcome → List ℕ → Type 0
Fills size (tokens ts) table = table ≡ table_of size (tokens ts)
Fills size (refused number place) table = Unit {0}
