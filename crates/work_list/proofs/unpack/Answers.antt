-- `work_list::unpack` meets its contract.
use Rattle.work_list.proofs.PackLaws.{unpacks_last}
use Rattle.work_list.proofs.unpack.Goals as goal

-- the other arms are found where `unpacked` is opened
pub returns-in_default : goal.returns-in_default
returns-in_default c = unpacks_last c.args.number c.in_default.in_default-own.rest
