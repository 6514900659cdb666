-- Worked examples of one instruction, each by computation: the order of its refusals, and the VERIFY rule.
use Rattle.std.specs.Prelude.{◌≡◌, refl, [], ◌∷◌, replicate}
use Rattle.instruction.specs.declared.Lexed.TheVariants.{One, Two}
use Rattle.std.specs.Prelude.{Ok, Err}
use Rattle.instruction.specs.declared.Error.TheVariants as error
use Rattle.instruction.specs.Code.{EQUAL, NUMEQUAL, CHECKMULTISIG, VERIFY, NUM, HASH20}
use Rattle.instruction.specs.Opcode.{ranged}
use Rattle.instruction.specs.Number.{minimal, number_of}
use Rattle.instruction.specs.Push.{small, pushed, has_opcode, push_of, sized_of}
use Rattle.instruction.specs.Instruction.{verify_refused, instruction_of}

-- `4c01`: the length form goes before the data
length_form_before_data : instruction_of (0x4c ∷ 0x01 ∷ []) 0 ≡ Err error.NonMinimalPush
unfolding ranged minimal number_of small pushed has_opcode push_of sized_of verify_refused instruction_of
length_form_before_data = refl

-- PUSHDATA1 of 75 bytes is too wide
pushdata1_of_75 : instruction_of (0x4c ∷ 75 ∷ replicate 75 0xaa) 0 ≡ Err error.NonMinimalPush
unfolding ranged minimal number_of small pushed has_opcode push_of sized_of verify_refused instruction_of
pushdata1_of_75 = refl

-- and of 76 bytes gives no token
pushdata1_of_76 : instruction_of (0x4c ∷ 76 ∷ replicate 76 0xaa) 0 ≡ Err error.InvalidInt
unfolding ranged minimal number_of small pushed has_opcode push_of sized_of verify_refused instruction_of
pushdata1_of_76 = refl

-- `0180`: not minimal, whatever its sign
negative_zero : instruction_of (0x01 ∷ 0x80 ∷ []) 0 ≡ Err error.InvalidInt
unfolding ranged minimal number_of small pushed has_opcode push_of sized_of verify_refused instruction_of
negative_zero = refl

-- `0191`: minimal and negative
negative : instruction_of (0x01 ∷ 0x91 ∷ []) 0 ≡ Err error.NegativeInt
unfolding ranged minimal number_of small pushed has_opcode push_of sized_of verify_refused instruction_of
negative = refl

-- `0105`: a number with an opcode of its own
small_number : instruction_of (0x01 ∷ 0x05 ∷ []) 0 ≡ Err error.NonMinimalPush
unfolding ranged minimal number_of small pushed has_opcode push_of sized_of verify_refused instruction_of
small_number = refl

-- `0111`: 17, in two bytes
number : instruction_of (0x01 ∷ 0x11 ∷ []) 0 ≡ Ok (One NUM 2 17)
unfolding ranged minimal number_of small pushed has_opcode push_of sized_of verify_refused instruction_of
number = refl

-- `01`: nothing to push
data_missing : instruction_of (0x01 ∷ []) 0 ≡ Err error.EarlyEndOfScript
unfolding ranged minimal number_of small pushed has_opcode push_of sized_of verify_refused instruction_of
data_missing = refl

-- a push of 20 bytes, in 21
hash : instruction_of (20 ∷ replicate 20 0xaa) 0 ≡ Ok (One HASH20 21 0)
unfolding ranged minimal number_of small pushed has_opcode push_of sized_of verify_refused instruction_of
hash = refl

-- VERIFY after NumEqual passes
verify_after_numequal : instruction_of (0x69 ∷ []) NUMEQUAL ≡ Ok (One VERIFY 1 0)
unfolding ranged minimal number_of small pushed has_opcode push_of sized_of verify_refused instruction_of
verify_after_numequal = refl

-- after CheckMultiSig it is 7
verify_after_checkmultisig : instruction_of (0x69 ∷ []) CHECKMULTISIG ≡ Err error.NonMinimalVerify
unfolding ranged minimal number_of small pushed has_opcode push_of sized_of verify_refused instruction_of
verify_after_checkmultisig = refl

-- `88`: Equal and then Verify
fused : instruction_of (0x88 ∷ []) 0 ≡ Ok (Two EQUAL 1)
unfolding ranged minimal number_of small pushed has_opcode push_of sized_of verify_refused instruction_of
fused = refl

-- `4f`: not listed
unlisted : instruction_of (0x4f ∷ []) 0 ≡ Err error.InvalidOpcode
unfolding ranged minimal number_of small pushed has_opcode push_of sized_of verify_refused instruction_of
unlisted = refl
