-- The canonical bytes of a list of lexemes: Bitcoin's opcodes, BIP 379's four fused forms, the shortest push and the shortest number. Written without the lexer.
use Rattle.std.specs.Prelude.{Bool, true, false, List, [], ◌∷◌, ℕ, ◌+◌, ◌-◌, ◌/◌, ◌%◌, eqb, leb, ltb, length, get_or}
use Rattle.tables.specs.Choose.{pick}
use Rattle.tables.specs.Tables.{flat}
use Rattle.lex.specs.Token.{EQUAL, NUMEQUAL, CHECKSIG, CHECKMULTISIG, VERIFY, Lexeme, op, num, push}

-- Bitcoin's opcodes in the order of the token codes, from BOOLAND 1 to HASH256 27
abbrev pub opcodes : List ℕ
opcodes =
    0x9a ∷ 0x9b ∷ 0x93 ∷ 0x87 ∷ 0x9c ∷ 0xac ∷ 0xba ∷ 0xae ∷ 0xb2 ∷ 0xb1 ∷ 0x6c ∷ 0x6b ∷ 0x75 ∷ 0x76 ∷
    0x63 ∷ 0x73 ∷ 0x64 ∷ 0x67 ∷ 0x68 ∷ 0x92 ∷ 0x82 ∷ 0x7c ∷ 0x69 ∷ 0xa6 ∷ 0xa9 ∷ 0xa8 ∷ 0xaa ∷ []

abbrev pub opcode_byte : ℕ → ℕ
opcode_byte code = get_or opcodes (code - 1) 0

-- EQUAL, NUMEQUAL, CHECKSIG and CHECKMULTISIG have an opcode that also verifies
unfoldable pub has_fused : ℕ → Bool
has_fused code = pick (eqb code EQUAL) true (pick (eqb code NUMEQUAL) true (pick (eqb code CHECKSIG) true (eqb code CHECKMULTISIG)))

unfoldable pub fused_byte : ℕ → ℕ
fused_byte code = pick (eqb code EQUAL) 0x88 (pick (eqb code NUMEQUAL) 0x9d (pick (eqb code CHECKSIG) 0xad 0xaf))

-- the shortest push of at most 75 bytes: their number, and the bytes
abbrev pub push_bytes : List ℕ → List ℕ
push_bytes bytes = length bytes ∷ bytes

-- the shortest little-endian digits of a number, with the top bit of the last one free for the sign
unfoldable pub digits : ℕ → List ℕ
digits n =
    pick (ltb n 0x80) (n ∷ [])
    (pick (ltb n 0x8000) (n % 256 ∷ n / 256 ∷ [])
    (pick (ltb n 0x800000) (n % 256 ∷ n / 256 % 256 ∷ n / 65536 ∷ [])
    (n % 256 ∷ n / 256 % 256 ∷ n / 65536 % 256 ∷ n / 16777216 ∷ [])))

-- the shortest way to push a number: 0 is an empty push, 1 to 16 have opcodes, any other is pushed by its digits
unfoldable pub number_bytes : ℕ → List ℕ
number_bytes n = pick (eqb n 0) (0x00 ∷ []) (pick (leb n 16) ((0x50 + n) ∷ []) (push_bytes (digits n)))

-- one lexeme as one instruction
abbrev pub instruction_bytes : Lexeme → List ℕ
instruction_bytes (op code) = opcode_byte code ∷ []
instruction_bytes (num n) = number_bytes n
instruction_bytes (push code d) = push_bytes d.bytes

-- a lexeme and the VERIFY behind it as one instruction
abbrev pub verified_bytes : Lexeme → List ℕ
verified_bytes (op code) = fused_byte code ∷ []
verified_bytes (num n) = []
verified_bytes (push code d) = []

abbrev pub is_verify : Lexeme → Bool
is_verify (op code) = eqb code VERIFY
is_verify (num n) = false
is_verify (push code d) = false

abbrev pub is_fusible : Lexeme → Bool
is_fusible (op code) = has_fused code
is_fusible (num n) = false
is_fusible (push code d) = false

-- whether a lexeme and the next are written as one fused opcode
abbrev pub fuses : Lexeme → Lexeme → Bool
fuses l m = pick (is_fusible l) (is_verify m) false

-- the bytes of each instruction: a fused form wherever there is one
abbrev pub spelling : List Lexeme → List (List ℕ)
spelling [] = []
spelling (l ∷ []) = instruction_bytes l ∷ []
spelling (l ∷ m ∷ ls) = pick (fuses l m) (verified_bytes l ∷ spelling ls) (instruction_bytes l ∷ spelling (m ∷ ls))

unfoldable pub spell : List Lexeme → List ℕ
spell ls = flat (spelling ls)
