-- `encode_records::encode_records` meets its contract: what `encode_front` writes of the copied records is what is said of the records (FrontLaws).
use Rattle.std.proofs.Common.{◌∙◌, length}
use Rattle.encode_records.proofs.FrontLaws.{record_front}
use Rattle.encode_records.proofs.encode_records.Goals as goal

pub returns : goal.returns
returns c =
    c.encode_front.ensures
    ∙ record_front c.args.kind c.args.records.now c.args.flat.now c.copy_fitting.new.flat c.args.keys.now c.args.material.now (length c.args.work.now) c.args.out.now c.copy_fitting.ensures c.copy_fitting.auto.flat
