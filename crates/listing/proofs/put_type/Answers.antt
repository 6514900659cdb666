-- `listing::put_type` meets its contract. Four digits and the line feed (LineLaws).
use Rattle.listing.proofs.LineLaws.{type_written}
use Rattle.listing.proofs.put_type.Goals as goal

pub returns : goal.returns
returns c = type_written c.args.out.now c.args.at c.args.nodes.now c.args.i c.put_digits-input.new.out c.put_digits-d.new.out c.put_digits-u.new.out c.put_word.new.out c.put_digits-input.result c.put_digits-d.result c.put_digits-u.result c.put_word.result c.field.result c.field-2.result c.field-3.result c.field-4.result c.requires c.field.ensures c.field-2.ensures c.field-3.ensures c.field-4.ensures c.put_digits-input.ensures c.put_digits-d.ensures c.put_digits-u.ensures c.put_word.ensures
