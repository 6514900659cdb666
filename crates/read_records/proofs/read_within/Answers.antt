-- `read_records::read_within` meets its contract: RecordLaws, `within_is`.
use Rattle.read_records.proofs.RecordLaws.{within_is}
use Rattle.read_records.proofs.read_within.Goals as goal

pub returns : goal.returns
returns c = within_is c.args.kind c.args.script.now c.args.tokens.now c.args.nodes.now c.args.keys.now c.args.work.now c.clear_behind.new.t c.args.records c.node_room-front.result _ _ c.read.new.nodes _ _ c.node_room-front.ensures c.clear_behind.ensures c.read.ensures c.read.auto.nodes
