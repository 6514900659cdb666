-- What each opcode byte asks for: the table of cases of document 01, "Bytes to tokens", a row an opcode, in the order of the bytes.
use Rattle.std.specs.Prelude.{List, [], ◌∷◌, ℕ, ◌-◌, eqb, leb}
use Rattle.tables.specs.Choose.{pick}
use Rattle.instruction.specs.declared.Op.{Op}
use Rattle.instruction.specs.declared.Op.TheVariants.{Push, Sized, Num, One, Fused, Verify, Unlisted}
use Rattle.instruction.specs.Code.{BOOLAND, BOOLOR, ADD, EQUAL, NUMEQUAL, CHECKSIG, CHECKSIGADD, CHECKMULTISIG, CHECKSEQUENCEVERIFY, CHECKLOCKTIMEVERIFY, FROMALTSTACK, TOALTSTACK, DROP, DUP, IF, IFDUP, NOTIF, ELSE, ENDIF, ZERONOTEQUAL, SIZE, SWAP, RIPEMD160, HASH160, SHA256, HASH256}

-- an opcode byte, and what it asks for
pub record Row : Type 0 where
  pub byte : ℕ
  pub asks : Op

abbrev pub row : ℕ → Op → Row
row b o = record { byte = b; asks = o }

-- Sized w least: the push's length stands in w bytes, and least is the least length that needs so many
abbrev pub rows : List Row
rows =
    row 0x4c (Sized 1 76) ∷
    row 0x4d (Sized 2 256) ∷
    row 0x4e (Sized 4 65536) ∷
    row 0x63 (One IF) ∷
    row 0x64 (One NOTIF) ∷
    row 0x67 (One ELSE) ∷
    row 0x68 (One ENDIF) ∷
    row 0x69 Verify ∷
    row 0x6b (One TOALTSTACK) ∷
    row 0x6c (One FROMALTSTACK) ∷
    row 0x73 (One IFDUP) ∷
    row 0x75 (One DROP) ∷
    row 0x76 (One DUP) ∷
    row 0x7c (One SWAP) ∷
    row 0x82 (One SIZE) ∷
    row 0x87 (One EQUAL) ∷
    row 0x88 (Fused EQUAL) ∷
    row 0x92 (One ZERONOTEQUAL) ∷
    row 0x93 (One ADD) ∷
    row 0x9a (One BOOLAND) ∷
    row 0x9b (One BOOLOR) ∷
    row 0x9c (One NUMEQUAL) ∷
    row 0x9d (Fused NUMEQUAL) ∷
    row 0xa6 (One RIPEMD160) ∷
    row 0xa8 (One SHA256) ∷
    row 0xa9 (One HASH160) ∷
    row 0xaa (One HASH256) ∷
    row 0xac (One CHECKSIG) ∷
    row 0xad (Fused CHECKSIG) ∷
    row 0xae (One CHECKMULTISIG) ∷
    row 0xaf (Fused CHECKMULTISIG) ∷
    row 0xb1 (One CHECKLOCKTIMEVERIFY) ∷
    row 0xb2 (One CHECKSEQUENCEVERIFY) ∷
    row 0xba (One CHECKSIGADD) ∷
    []

-- what the row with this byte asks for, if there is one
abbrev pub look : ℕ → List Row → Op → Op
look b [] other = other
look b (r ∷ rs) other = pick (eqb b r.byte) r.asks (look b rs other)

-- a byte without a row of its own: 0 to 0x4b push so many bytes, 0x51 to 0x60 are the numbers 1 to 16, any other isn't listed
unfoldable pub ranged : ℕ → Op
ranged b = pick (leb 0x51 b) (pick (leb b 0x60) (Num (b - 0x50)) Unlisted) (pick (leb b 0x4b) (Push b) Unlisted)

abbrev pub op_of : ℕ → Op
op_of b = look b rows (ranged b)
