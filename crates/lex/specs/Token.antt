-- Tokens and what they push: document 01, "Bytes to tokens" ("A token holds code, number and place of its instruction"). The codes are passed on from the crate below.
use Rattle.std.specs.Prelude.{List, ℕ, ◌+◌, ◌*◌, eqb, leb, take, drop, get_or}
use Rattle.tables.specs.Choose.{pick}
pub use Rattle.instruction.specs.Code.{BOOLAND, BOOLOR, ADD, EQUAL, NUMEQUAL, CHECKSIG, CHECKSIGADD, CHECKMULTISIG, CHECKSEQUENCEVERIFY, CHECKLOCKTIMEVERIFY, FROMALTSTACK, TOALTSTACK, DROP, DUP, IF, IFDUP, NOTIF, ELSE, ENDIF, ZERONOTEQUAL, SIZE, SWAP, VERIFY, RIPEMD160, HASH160, SHA256, HASH256, NUM, HASH20, BYTES32, BYTES33, BYTES65, Bytes}

-- a token: code, number (a Num's, else 0) and place of its instruction
pub record Token : Type 0 where
  pub code : ℕ
  pub number : ℕ
  pub place : ℕ

abbrev pub token : ℕ → ℕ → ℕ → Token
token c v p = record { code = c; number = v; place = p }

-- entry i of a token table, three numbers a token
abbrev pub read_token : List ℕ → ℕ → Token
read_token table i = token (get_or table (3 * i) 0) (get_or table (3 * i + 1) 0) (get_or table (3 * i + 2) 0)

-- pushed data: where it starts in the script, and its bytes
pub record Data : Type 0 where
  pub place : ℕ
  pub bytes : List ℕ

-- a token with what it pushes: an opcode by its code, a number, or a push by its code (29 to 32) with its data
pub data Lexeme : Type 0 where
  op : ℕ → Lexeme
  num : ℕ → Lexeme
  push : ℕ → Data → Lexeme

-- how many bytes a Hash20, Bytes32, Bytes33, Bytes65 pushes
unfoldable pub data_length : ℕ → ℕ
data_length code = pick (eqb code HASH20) 20 (pick (eqb code BYTES32) 32 (pick (eqb code BYTES33) 33 65))

-- so many bytes of a script from a place on
abbrev pub data_at : List ℕ → ℕ → ℕ → Data
data_at script at size = record { place = at; bytes = take size (drop at script) }

-- the lexeme of a token of this script: pushed data starts one byte behind the token's place
unfoldable pub lexeme : List ℕ → Token → Lexeme
lexeme script t =
    pick (eqb t.code NUM) (num t.number)
    (pick (leb HASH20 t.code)
    (pick (leb t.code BYTES65) (push t.code (data_at script (t.place + 1) (data_length t.code))) (op t.code))
    (op t.code))

-- a lexeme whose data has lost its place: "compared by code, number and pushed bytes, whatever their places"
abbrev pub bare : Lexeme → Lexeme
bare (op c) = op c
bare (num n) = num n
bare (push c d) = push c (record { place = 0; bytes = d.bytes })
