-- `listing::put_node` meets its contract. Five words and the type (LineLaws).
use Rattle.listing.proofs.LineLaws.{refused_for_room, has_room, node_length, node_written}
use Rattle.listing.proofs.put_node.Goals as goal
use Rattle.listing.specs.Lines.{node_line}
use Rattle.std.proofs.Common.{ap}
use Rattle.std.specs.Prelude.{not}

pub returns-then-not-has_room : goal.returns-then-not-has_room
returns-then-not-has_room c = refused_for_room c.args.out.now c.args.at (node_line c.args.nodes.now c.args.i) 44 (node_length c.args.nodes.now c.args.i) c.has_room.ensures (ap not c.if-not-has_room.true)

pub returns : goal.returns
returns c = node_written c.args.out.now c.args.at c.args.nodes.now c.args.i c.put_word-number.new.out c.put_word-count.new.out c.put_word-place.new.out c.put_word-size.new.out c.put_word-base.new.out c.put_type.new.out c.put_word-number.result c.put_word-count.result c.put_word-place.result c.put_word-size.result c.put_word-base.result c.put_type.result c.field.result c.field-2.result c.field-3.result c.field-4.result c.field-5.result (has_room c.args.out.now c.args.at 44 c.has_room.ensures (ap not c.if-not-has_room.false)) c.field.ensures c.field-2.ensures c.field-3.ensures c.field-4.ensures c.field-5.ensures c.put_word-number.ensures c.put_word-count.ensures c.put_word-place.ensures c.put_word-size.ensures c.put_word-base.ensures c.put_type.ensures
