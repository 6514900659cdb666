-- An empty rest of a script has no instruction: its bytes are missing. Assumes nothing.
use Rattle.std.specs.Prelude.{◌≡◌, List, [], ◌∷◌, ℕ, ◌<◌, length, Err, refl}
use Rattle.std.proofs.Common.{arith}
use Rattle.instruction.specs.declared.Error.TheVariants as error
use Rattle.instruction.specs.Opcode.{ranged}
use Rattle.instruction.specs.Push.{has_opcode, push_of}
use Rattle.instruction.specs.Instruction.{instruction_of}

pub none_there : (rest : List ℕ) (last : ℕ) → length rest < 1 → Err error.EarlyEndOfScript ≡ instruction_of rest last
unfolding instruction_of ranged has_opcode push_of
none_there [] last h = refl
none_there (byte ∷ rest) last h = absurd (omega arith)
