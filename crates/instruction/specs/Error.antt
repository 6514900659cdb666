-- Why an instruction is refused: 01's numbers 2 to 7 (section "When the desk says no"). And what one instruction answers.
use Rattle.std.specs.Prelude.{ℕ, Result}
use Rattle.instruction.specs.declared.Error.{Error}
use Rattle.instruction.specs.declared.Error.TheVariants as error
use Rattle.instruction.specs.declared.Lexed.{Lexed}

abbrev pub error_number : Error → ℕ
error_number error.EarlyEndOfScript = 2
error_number error.NonMinimalPush = 3
error_number error.InvalidInt = 4
error_number error.NegativeInt = 5
error_number error.InvalidOpcode = 6
error_number error.NonMinimalVerify = 7

-- a number, or why there is none
abbrev pub Number : Type 0
Number = Result ℕ Error

-- the tokens of an instruction, or why it is refused
abbrev pub Lexing : Type 0
Lexing = Result Lexed Error
