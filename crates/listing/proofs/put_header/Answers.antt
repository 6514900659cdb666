-- `listing::put_header` meets its contract. Seven words, one after the other (LineLaws).
use Rattle.listing.proofs.LineLaws.{refused_for_room, has_room, header_length, header_written}
use Rattle.listing.proofs.put_header.Goals as goal
use Rattle.listing.specs.Lines.{header_line}
use Rattle.std.proofs.Common.{ap}
use Rattle.std.specs.Prelude.{not}

pub returns-then-not-has_room : goal.returns-then-not-has_room
returns-then-not-has_room c = refused_for_room c.args.out.now c.args.at (header_line c.args.h) 51 (header_length c.args.h) c.has_room.ensures (ap not c.if-not-has_room.true)

pub returns : goal.returns
returns c = header_written c.args.out.now c.args.at c.args.h c.put_word-reason.new.out c.put_word-place.new.out c.put_word-tokens.new.out c.put_word-steps.new.out c.put_word-nodes.new.out c.put_word-keys.new.out c.put_word.new.out c.put_word-reason.result c.put_word-place.result c.put_word-tokens.result c.put_word-steps.result c.put_word-nodes.result c.put_word-keys.result c.put_word.result (has_room c.args.out.now c.args.at 51 c.has_room.ensures (ap not c.if-not-has_room.false)) c.put_word-reason.ensures c.put_word-place.ensures c.put_word-tokens.ensures c.put_word-steps.ensures c.put_word-nodes.ensures c.put_word-keys.ensures c.put_word.ensures
