-- `listing::put_key` meets its contract. One word (LineLaws).
use Rattle.listing.proofs.LineLaws.{refused_for_room, has_room, key_length_lem, key_written}
use Rattle.listing.proofs.put_key.Goals as goal
use Rattle.listing.specs.Lines.{key_line}
use Rattle.std.proofs.Common.{ap}
use Rattle.std.specs.Prelude.{not}

pub returns-then-not-has_room : goal.returns-then-not-has_room
returns-then-not-has_room c = refused_for_room c.args.out.now c.args.at (key_line c.args.keys.now c.args.i) 9 (key_length_lem c.args.keys.now c.args.i) c.has_room.ensures (ap not c.if-not-has_room.true)

pub returns : goal.returns
returns c = key_written c.args.out.now c.args.at c.args.keys.now c.args.i c.put_word.new.out c.put_word.result c.cell.result (has_room c.args.out.now c.args.at 9 c.has_room.ensures (ap not c.if-not-has_room.false)) c.cell.ensures c.put_word.ensures
