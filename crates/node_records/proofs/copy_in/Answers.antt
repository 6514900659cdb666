-- `node_records::copy_in` meets its contract: at the end none is left to be stored, and all stored is what the contract says.
use Rattle.std.proofs.Common.{◌∙◌, sym}
use Rattle.node_records.proofs.Stored.{stored_end, stored_all}
use Rattle.node_records.proofs.copy_in.Goals as goal

pub returns : goal.returns
returns c =
    sym (stored_end c.loop-i.i c.args.records.now c.loop-i.flat c.loop-i-test.false)
    ∙ c.loop-i.invariant.left
    ∙ stored_all c.args.records.now c.args.flat.now c.requires
