-- `desk::write_out` meets its contract. Each turn leaves less to be written (SendingLaws).
use Rattle.desk.proofs.SendingLaws.{CrossedOff, all_sent, crossed_off, turned}
use Rattle.desk.proofs.write_out.Goals as goal
use lib.ListN.{length}

pub loop-held-preserved : goal.loop-held-preserved
loop-held-preserved c = turned (length c.args.part.now) c.args.part.now _ _ c.loop-held.held c.loop-held.script c.loop-held.tables.nodes c.loop-held.tables.keys c.loop-held.out c.turn-held-in-loop-held.result c.turn-held-in-loop-held.new.script c.turn-held-in-loop-held.new.tables.nodes c.turn-held-in-loop-held.new.tables.keys c.turn-held-in-loop-held.new.out c.loop-held.invariant (crossed_off (length c.args.part.now) c.args.part.now c.loop-held.held _ c.loop-held.script c.loop-held.tables.nodes c.loop-held.tables.keys c.turn-held-in-loop-held.result c.turn-held-in-loop-held.new.script c.turn-held-in-loop-held.new.tables.nodes c.turn-held-in-loop-held.new.tables.keys c.turn-held-in-loop-held.new.out (all_sent (CrossedOff c.loop-held.held) c.write_front.result c.in_ok-left.was c.write_front.ensures) c.turn-held-in-loop-held.ensures)
