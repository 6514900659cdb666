-- What one instruction gives: document 01, "Each opcode byte is decided by one table of cases", with the VERIFY rule.
use Rattle.std.specs.Prelude.{Bool, true, List, ℕ, eqb, get_or}
use Rattle.tables.specs.Choose.{pick}
use Rattle.instruction.specs.declared.Op.{Op}
use Rattle.instruction.specs.declared.Op.TheVariants.{Push, Sized, Num, One, Fused, Verify, Unlisted}
use Rattle.instruction.specs.Error.{Lexing}
use Rattle.instruction.specs.declared.Lexed.TheVariants as gives
use Rattle.std.specs.Prelude.{Ok, Err}
use Rattle.instruction.specs.declared.Error.TheVariants as error
use Rattle.instruction.specs.Code.{EQUAL, CHECKSIG, CHECKMULTISIG, VERIFY, NUM}
use Rattle.instruction.specs.Opcode.{op_of}
use Rattle.instruction.specs.Push.{push_of, sized_of}

-- the VERIFY rule: "VERIFY after Equal, CheckSig or CheckMultiSig is 7; after NumEqual it passes". last is the code of the token before, 0 if there is none
unfoldable pub verify_refused : ℕ → Bool
verify_refused last = pick (eqb last EQUAL) true (pick (eqb last CHECKSIG) true (eqb last CHECKMULTISIG))

-- what an opcode gives at the front of the rest of a script. A fused opcode gives its token and then VERIFY
abbrev pub given : Op → List ℕ → ℕ → Lexing
given (Push n) rest last = push_of rest 1 n
given (Sized w least) rest last = sized_of rest w least
given (Num n) rest last = Ok (gives.One NUM 1 n)
given (One c) rest last = Ok (gives.One c 1 0)
given (Fused c) rest last = Ok (gives.Two c 1)
given Verify rest last = pick (verify_refused last) (Err error.NonMinimalVerify) (Ok (gives.One VERIFY 1 0))
given Unlisted rest last = Err error.InvalidOpcode

-- the instruction at the front of the rest of a script
unfoldable pub instruction_of : List ℕ → ℕ → Lexing
instruction_of rest last = given (op_of (get_or rest 0 0)) rest last
