-- `emit::opcode_byte` meets its contract.
use Rattle.std.proofs.Common.{arith}
use Rattle.emit.proofs.CodeLaws.{not_listed}
use Rattle.emit.proofs.opcode_byte.Goals as goal

pub returns-in_default : goal.returns-in_default
returns-in_default c = not_listed c.args.code (omega arith)
