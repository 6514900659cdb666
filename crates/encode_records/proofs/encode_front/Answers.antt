-- `encode_records::encode_front` meets its contract: FrontLaws, `refused_front` and `encoded_front`.
use Rattle.encode_records.proofs.FrontLaws.{refused_front, encoded_front}
use Rattle.encode_records.proofs.encode_front.Goals as goal

pub returns-then-too_short : goal.returns-then-too_short
returns-then-too_short c = refused_front c.args.kind c.args.flat.now c.args.nodes c.args.keys.now c.args.material.now c.args.work.now c.args.out.now c.no_room.result _ _ _ c.too_short.ensures c.if-too_short.true c.no_room.ensures c.clear.ensures c.clear_work.ensures

pub returns : goal.returns
returns c = encoded_front c.args.kind c.args.flat.now c.args.nodes c.args.keys.now c.args.material.now c.args.work.now c.args.out.now c.encode-r.result _ _ _ _ c.too_short.ensures c.if-too_short.false c.encode-r.ensures c.clear-2.ensures
