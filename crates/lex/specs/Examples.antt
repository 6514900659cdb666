-- Worked examples of the definitions, each by computation: document 01's scripts that are the lexer's matter, and the edges of its rules.
use Rattle.std.specs.Prelude.{◌≡◌, refl, [], ◌∷◌, replicate}
use Rattle.lex.specs.Token.{token, EQUAL, NUMEQUAL, CHECKSIG, CHECKMULTISIG, IF, ELSE, ENDIF, VERIFY, NUM, HASH20, BYTES32, BYTES33, BYTES65}
use Rattle.instruction.specs.Opcode.{ranged}
use Rattle.instruction.specs.Number.{minimal, number_of}
use Rattle.instruction.specs.Push.{small, pushed, has_opcode, push_of, sized_of}
use Rattle.instruction.specs.Instruction.{verify_refused, instruction_of}
use Rattle.lex.specs.Script.{script_limit, tokens, refused, lex_of, table_of}

-- `6351670068`
if_else : lex_of 1000 (0x63 ∷ 0x51 ∷ 0x67 ∷ 0x00 ∷ 0x68 ∷ []) ≡ tokens (token IF 0 0 ∷ token NUM 1 1 ∷ token ELSE 0 2 ∷ token NUM 0 3 ∷ token ENDIF 0 4 ∷ [])
unfolding ranged minimal number_of small pushed has_opcode push_of sized_of verify_refused instruction_of script_limit lex_of
if_else = refl

-- `8769`: VERIFY after Equal has a fused form
verify_after_equal : lex_of 1000 (0x87 ∷ 0x69 ∷ []) ≡ refused 7 1
unfolding ranged minimal number_of small pushed has_opcode push_of sized_of verify_refused instruction_of script_limit lex_of
verify_after_equal = refl

-- `8869`: the last token is Verify, so this VERIFY passes
verify_after_fused : lex_of 1000 (0x88 ∷ 0x69 ∷ []) ≡ tokens (token EQUAL 0 0 ∷ token VERIFY 0 0 ∷ token VERIFY 0 1 ∷ [])
unfolding ranged minimal number_of small pushed has_opcode push_of sized_of verify_refused instruction_of script_limit lex_of
verify_after_fused = refl

-- `9c69`: after NumEqual it passes
verify_after_numequal : lex_of 1000 (0x9c ∷ 0x69 ∷ []) ≡ tokens (token NUMEQUAL 0 0 ∷ token VERIFY 0 1 ∷ [])
unfolding ranged minimal number_of small pushed has_opcode push_of sized_of verify_refused instruction_of script_limit lex_of
verify_after_numequal = refl

-- `ac69`
verify_after_checksig : lex_of 1000 (0xac ∷ 0x69 ∷ []) ≡ refused 7 1
unfolding ranged minimal number_of small pushed has_opcode push_of sized_of verify_refused instruction_of script_limit lex_of
verify_after_checksig = refl

-- `ae69`
verify_after_checkmultisig : lex_of 1000 (0xae ∷ 0x69 ∷ []) ≡ refused 7 1
unfolding ranged minimal number_of small pushed has_opcode push_of sized_of verify_refused instruction_of script_limit lex_of
verify_after_checkmultisig = refl

-- `88`, `9d`, `ad`, `af`: two tokens at one place
fused : lex_of 1000 (0x88 ∷ 0x9d ∷ 0xad ∷ 0xaf ∷ []) ≡ tokens (token EQUAL 0 0 ∷ token VERIFY 0 0 ∷ token NUMEQUAL 0 1 ∷ token VERIFY 0 1 ∷ token CHECKSIG 0 2 ∷ token VERIFY 0 2 ∷ token CHECKMULTISIG 0 3 ∷ token VERIFY 0 3 ∷ [])
unfolding ranged minimal number_of small pushed has_opcode push_of sized_of verify_refused instruction_of script_limit lex_of
fused = refl

-- `88`
fused_alone : lex_of 1000 (0x88 ∷ []) ≡ tokens (token EQUAL 0 0 ∷ token VERIFY 0 0 ∷ [])
unfolding ranged minimal number_of small pushed has_opcode push_of sized_of verify_refused instruction_of script_limit lex_of
fused_alone = refl

-- a fused opcode with room for one token only
fused_without_room : lex_of 2 (0x51 ∷ 0x88 ∷ []) ≡ refused 8 1
unfolding ranged minimal number_of small pushed has_opcode push_of sized_of verify_refused instruction_of script_limit lex_of
fused_without_room = refl

-- and with room for both
fused_with_room : lex_of 3 (0x51 ∷ 0x88 ∷ []) ≡ tokens (token NUM 1 0 ∷ token EQUAL 0 1 ∷ token VERIFY 0 1 ∷ [])
unfolding ranged minimal number_of small pushed has_opcode push_of sized_of verify_refused instruction_of script_limit lex_of
fused_with_room = refl

-- `0105`: 5 has an opcode of its own
small_number_pushed : lex_of 1000 (0x01 ∷ 0x05 ∷ []) ≡ refused 3 0
unfolding ranged minimal number_of small pushed has_opcode push_of sized_of verify_refused instruction_of script_limit lex_of
small_number_pushed = refl

-- `0181`: so has -1
minus_one_pushed : lex_of 1000 (0x01 ∷ 0x81 ∷ []) ≡ refused 3 0
unfolding ranged minimal number_of small pushed has_opcode push_of sized_of verify_refused instruction_of script_limit lex_of
minus_one_pushed = refl

-- `0111`: 17 has none
number_17 : lex_of 1000 (0x01 ∷ 0x11 ∷ []) ≡ tokens (token NUM 17 0 ∷ [])
unfolding ranged minimal number_of small pushed has_opcode push_of sized_of verify_refused instruction_of script_limit lex_of
number_17 = refl

-- `0180`: not minimal, whatever its sign
negative_zero : lex_of 1000 (0x01 ∷ 0x80 ∷ []) ≡ refused 4 0
unfolding ranged minimal number_of small pushed has_opcode push_of sized_of verify_refused instruction_of script_limit lex_of
negative_zero = refl

-- `0191`: minimal and negative
negative : lex_of 1000 (0x01 ∷ 0x91 ∷ []) ≡ refused 5 0
unfolding ranged minimal number_of small pushed has_opcode push_of sized_of verify_refused instruction_of script_limit lex_of
negative = refl

-- `027f00`: not minimal
padded_number : lex_of 1000 (0x02 ∷ 0x7f ∷ 0x00 ∷ []) ≡ refused 4 0
unfolding ranged minimal number_of small pushed has_opcode push_of sized_of verify_refused instruction_of script_limit lex_of
padded_number = refl

-- `020080`: not minimal, whatever its sign
padded_negative : lex_of 1000 (0x02 ∷ 0x00 ∷ 0x80 ∷ []) ≡ refused 4 0
unfolding ranged minimal number_of small pushed has_opcode push_of sized_of verify_refused instruction_of script_limit lex_of
padded_negative = refl

-- `028000`: the second byte is there for the sign
number_128 : lex_of 1000 (0x02 ∷ 0x80 ∷ 0x00 ∷ []) ≡ tokens (token NUM 128 0 ∷ [])
unfolding ranged minimal number_of small pushed has_opcode push_of sized_of verify_refused instruction_of script_limit lex_of
number_128 = refl

-- `04ffffff7f`: 2,147,483,647
number_largest : lex_of 1000 (0x04 ∷ 0xff ∷ 0xff ∷ 0xff ∷ 0x7f ∷ []) ≡ tokens (token NUM 2147483647 0 ∷ [])
unfolding ranged minimal number_of small pushed has_opcode push_of sized_of verify_refused instruction_of script_limit lex_of
number_largest = refl

-- five bytes are no number
number_too_long : lex_of 1000 (0x05 ∷ 0x00 ∷ 0x00 ∷ 0x00 ∷ 0x00 ∷ 0x01 ∷ []) ≡ refused 4 0
unfolding ranged minimal number_of small pushed has_opcode push_of sized_of verify_refused instruction_of script_limit lex_of
number_too_long = refl

-- `4c`
length_missing : lex_of 1000 (0x4c ∷ []) ≡ refused 2 0
unfolding ranged minimal number_of small pushed has_opcode push_of sized_of verify_refused instruction_of script_limit lex_of
length_missing = refl

-- `4c01`: the length form goes before the data
length_too_wide : lex_of 1000 (0x4c ∷ 0x01 ∷ []) ≡ refused 3 0
unfolding ranged minimal number_of small pushed has_opcode push_of sized_of verify_refused instruction_of script_limit lex_of
length_too_wide = refl

-- `01`: nothing to push
data_missing : lex_of 1000 (0x01 ∷ []) ≡ refused 2 0
unfolding ranged minimal number_of small pushed has_opcode push_of sized_of verify_refused instruction_of script_limit lex_of
data_missing = refl

-- `5102`
data_missing_later : lex_of 1000 (0x51 ∷ 0x02 ∷ 0xaa ∷ []) ≡ refused 2 1
unfolding ranged minimal number_of small pushed has_opcode push_of sized_of verify_refused instruction_of script_limit lex_of
data_missing_later = refl

-- `4f`
unlisted : lex_of 1000 (0x4f ∷ []) ≡ refused 6 0
unfolding ranged minimal number_of small pushed has_opcode push_of sized_of verify_refused instruction_of script_limit lex_of
unlisted = refl

-- no instruction
empty : lex_of 1000 ([]) ≡ tokens []
unfolding ranged minimal number_of small pushed has_opcode push_of sized_of verify_refused instruction_of script_limit lex_of
empty = refl

-- 8 goes after 2 to 7
no_room : lex_of 1 (0x51 ∷ 0x4f ∷ []) ≡ refused 6 1
unfolding ranged minimal number_of small pushed has_opcode push_of sized_of verify_refused instruction_of script_limit lex_of
no_room = refl

-- one token more than fits
no_room_for_one : lex_of 1 (0x51 ∷ 0x51 ∷ []) ≡ refused 8 1
unfolding ranged minimal number_of small pushed has_opcode push_of sized_of verify_refused instruction_of script_limit lex_of
no_room_for_one = refl

-- a push of 20 bytes
push_of_20 : lex_of 1000 (0x14 ∷ replicate 20 0xaa) ≡ tokens (token HASH20 0 0 ∷ [])
unfolding ranged minimal number_of small pushed has_opcode push_of sized_of verify_refused instruction_of script_limit lex_of
push_of_20 = refl

-- a push of 32 bytes
push_of_32 : lex_of 1000 (0x20 ∷ replicate 32 0xaa) ≡ tokens (token BYTES32 0 0 ∷ [])
unfolding ranged minimal number_of small pushed has_opcode push_of sized_of verify_refused instruction_of script_limit lex_of
push_of_32 = refl

-- a push of 33 bytes
push_of_33 : lex_of 1000 (0x21 ∷ replicate 33 0xaa) ≡ tokens (token BYTES33 0 0 ∷ [])
unfolding ranged minimal number_of small pushed has_opcode push_of sized_of verify_refused instruction_of script_limit lex_of
push_of_33 = refl

-- a push of 65 bytes
push_of_65 : lex_of 1000 (0x41 ∷ replicate 65 0xaa) ≡ tokens (token BYTES65 0 0 ∷ [])
unfolding ranged minimal number_of small pushed has_opcode push_of sized_of verify_refused instruction_of script_limit lex_of
push_of_65 = refl

-- PUSHDATA1 of 75 bytes is too wide
pushdata1_of_75 : lex_of 1000 (0x4c ∷ 75 ∷ replicate 75 0xaa) ≡ refused 3 0
unfolding ranged minimal number_of small pushed has_opcode push_of sized_of verify_refused instruction_of script_limit lex_of
pushdata1_of_75 = refl

-- PUSHDATA1 of 76 bytes is the shortest form, and gives no token
pushdata1_of_76 : lex_of 1000 (0x4c ∷ 76 ∷ replicate 76 0xaa) ≡ refused 4 0
unfolding ranged minimal number_of small pushed has_opcode push_of sized_of verify_refused instruction_of script_limit lex_of
pushdata1_of_76 = refl

-- PUSHDATA2 of 255 bytes is too wide
pushdata2_of_255 : lex_of 1000 (0x4d ∷ 255 ∷ 0 ∷ replicate 255 0xaa) ≡ refused 3 0
unfolding ranged minimal number_of small pushed has_opcode push_of sized_of verify_refused instruction_of script_limit lex_of
pushdata2_of_255 = refl

-- PUSHDATA2 of 256 bytes is the shortest form, and gives no token
pushdata2_of_256 : lex_of 1000 (0x4d ∷ 0 ∷ 1 ∷ replicate 256 0xaa) ≡ refused 4 0
unfolding ranged minimal number_of small pushed has_opcode push_of sized_of verify_refused instruction_of script_limit lex_of
pushdata2_of_256 = refl

-- the same with a byte missing
pushdata2_of_256_missing : lex_of 1000 (0x4d ∷ 0 ∷ 1 ∷ replicate 255 0xaa) ≡ refused 2 0
unfolding ranged minimal number_of small pushed has_opcode push_of sized_of verify_refused instruction_of script_limit lex_of
pushdata2_of_256_missing = refl

-- PUSHDATA4 of 65,535 bytes is too wide
pushdata4_too_wide : lex_of 1000 (0x4e ∷ 0xff ∷ 0xff ∷ 0 ∷ 0 ∷ []) ≡ refused 3 0
unfolding ranged minimal number_of small pushed has_opcode push_of sized_of verify_refused instruction_of script_limit lex_of
pushdata4_too_wide = refl

-- the table after a refusal, and after acceptance: seven numbers hold two whole tokens, and the rest is zero too
table_refused : table_of 7 (lex_of 2 (0x87 ∷ 0x69 ∷ [])) ≡ 0 ∷ 0 ∷ 0 ∷ 0 ∷ 0 ∷ 0 ∷ 0 ∷ []
unfolding ranged minimal number_of small pushed has_opcode push_of sized_of verify_refused instruction_of script_limit lex_of
table_refused = refl

table_accepted : table_of 7 (lex_of 2 (0x52 ∷ [])) ≡ 28 ∷ 2 ∷ 0 ∷ 0 ∷ 0 ∷ 0 ∷ 0 ∷ []
unfolding ranged minimal number_of small pushed has_opcode push_of sized_of verify_refused instruction_of script_limit lex_of
table_accepted = refl

-- 10,001 bytes are 1
too_long : lex_of 1000 (replicate 10001 0x51) ≡ refused 1 0
unfolding ranged minimal number_of small pushed has_opcode push_of sized_of verify_refused instruction_of script_limit lex_of
too_long = refl
