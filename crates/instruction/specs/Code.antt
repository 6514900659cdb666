-- The codes of tokens, in `Token`'s order in lex.rs: document 01, "Bytes to tokens" ("BoolAnd 1 to Bytes65 32").
use Rattle.std.specs.Prelude.{List, ℕ, ◌<◌, get_or}

abbrev pub BOOLAND : ℕ
BOOLAND = 1

abbrev pub BOOLOR : ℕ
BOOLOR = 2

abbrev pub ADD : ℕ
ADD = 3

abbrev pub EQUAL : ℕ
EQUAL = 4

abbrev pub NUMEQUAL : ℕ
NUMEQUAL = 5

abbrev pub CHECKSIG : ℕ
CHECKSIG = 6

abbrev pub CHECKSIGADD : ℕ
CHECKSIGADD = 7

abbrev pub CHECKMULTISIG : ℕ
CHECKMULTISIG = 8

abbrev pub CHECKSEQUENCEVERIFY : ℕ
CHECKSEQUENCEVERIFY = 9

abbrev pub CHECKLOCKTIMEVERIFY : ℕ
CHECKLOCKTIMEVERIFY = 10

abbrev pub FROMALTSTACK : ℕ
FROMALTSTACK = 11

abbrev pub TOALTSTACK : ℕ
TOALTSTACK = 12

abbrev pub DROP : ℕ
DROP = 13

abbrev pub DUP : ℕ
DUP = 14

abbrev pub IF : ℕ
IF = 15

abbrev pub IFDUP : ℕ
IFDUP = 16

abbrev pub NOTIF : ℕ
NOTIF = 17

abbrev pub ELSE : ℕ
ELSE = 18

abbrev pub ENDIF : ℕ
ENDIF = 19

abbrev pub ZERONOTEQUAL : ℕ
ZERONOTEQUAL = 20

abbrev pub SIZE : ℕ
SIZE = 21

abbrev pub SWAP : ℕ
SWAP = 22

abbrev pub VERIFY : ℕ
VERIFY = 23

abbrev pub RIPEMD160 : ℕ
RIPEMD160 = 24

abbrev pub HASH160 : ℕ
HASH160 = 25

abbrev pub SHA256 : ℕ
SHA256 = 26

abbrev pub HASH256 : ℕ
HASH256 = 27

abbrev pub NUM : ℕ
NUM = 28

abbrev pub HASH20 : ℕ
HASH20 = 29

abbrev pub BYTES32 : ℕ
BYTES32 = 30

abbrev pub BYTES33 : ℕ
BYTES33 = 31

abbrev pub BYTES65 : ℕ
BYTES65 = 32

-- a list of bytes, as every script is
abbrev pub Bytes : List ℕ → Type 0
Bytes script = (i : ℕ) → get_or script i 0 < 256
