-- `instruction::opcode` meets its contract.
use Rattle.instruction.proofs.OpcodeLaws.{not_listed, is_push_lem, is_num_lem, is_between, is_above}
use Rattle.instruction.proofs.opcode.Goals as goal
use mathlib.Core.Path.{◌∙◌}
use native.Mathlib.Omega.{arith}

pub returns-in-0-to-75 : goal.returns-in-0-to-75
returns-in-0-to-75 c = is_push_lem c.args.b c.from.ensures (omega arith) ∙ not_listed c.args.b c.in-0-to-75.in_default-own.rest

pub returns-in-81-to-96 : goal.returns-in-81-to-96
returns-in-81-to-96 c = is_num_lem c.args.b c.from-in-81-to-96.ensures (omega arith) (omega arith) ∙ not_listed c.args.b c.in-81-to-96.in_default-own.rest

pub returns-in_default : goal.returns-in_default
returns-in_default c = is_between c.args.b (omega arith) (omega arith) ∙ not_listed c.args.b c.in_default.in_default-own.rest

pub returns-in_default-2 : goal.returns-in_default-2
returns-in_default-2 c = is_above c.args.b (omega arith) ∙ not_listed c.args.b c.in_default.in_default-own.rest
