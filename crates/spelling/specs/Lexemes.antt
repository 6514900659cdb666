-- Which lists of lexemes a script can give, and the one spelling that tokens don't fix: NUMEQUAL VERIFY written as two instructions (document 01: "VERIFY after NumEqual passes").
use Rattle.std.specs.Prelude.{◌≡◌, List, [], ◌∷◌, map, ℕ, ◌≤◌, ◌<◌, length}
use Rattle.tables.specs.Tables.{flat}
use Rattle.lex.specs.Token.{Bytes, HASH20, BYTES65, HASH256, data_length, Token, lexeme, Lexeme, op, num, push}
use Rattle.spelling.specs.Spell.{spelling}

-- an opcode of the 27, a number below 2^31, or a push of as many bytes as its code says
abbrev pub Formed : Lexeme → Type 0
Formed (op code) = (1 ≤ code) × (code ≤ HASH256)
Formed (num n) = n < 2147483648
Formed (push code d) = (HASH20 ≤ code) × (code ≤ BYTES65) × (length d.bytes ≡ data_length code) × Bytes d.bytes

-- any list of these can be given
abbrev pub AllFormed : List Lexeme → Type 0
AllFormed [] = Unit {0}
AllFormed (l ∷ ls) = Formed l × AllFormed ls

-- the lexemes of the tokens of a script
abbrev pub lexemes : List ℕ → List Token → List Lexeme
lexemes script ts = map (lexeme script) ts

-- the same instructions but for NUMEQUALVERIFY (9d), which may stand as NUMEQUAL (9c) and VERIFY (69)
pub data ButForNumEqualVerify : List (List ℕ) → List (List ℕ) → Type 0 where
  none : ButForNumEqualVerify [] []
  same : {instruction : List ℕ} {rest written : List (List ℕ)} → ButForNumEqualVerify rest written → ButForNumEqualVerify (instruction ∷ rest) (instruction ∷ written)
  apart : {rest written : List (List ℕ)} → ButForNumEqualVerify rest written → ButForNumEqualVerify ((0x9d ∷ []) ∷ rest) ((0x9c ∷ []) ∷ (0x69 ∷ []) ∷ written)

-- these bytes are the spelling of ls, but for NUMEQUAL VERIFY
pub record Spells (ls : List Lexeme) (bytes : List ℕ) : Type 0 where
  pub written : List (List ℕ)
  pub but_for : ButForNumEqualVerify (spelling ls) written
  pub same_bytes : bytes ≡ flat written

-- none of these instructions is NUMEQUALVERIFY
abbrev pub NoNumEqualVerify : List (List ℕ) → Type 0
NoNumEqualVerify [] = Unit {0}
NoNumEqualVerify (instruction ∷ rest) = (instruction ≡ 0x9d ∷ [] → ⊥) × NoNumEqualVerify rest
