-- `own_records::written_again` meets its contract: the front of the records that the encoder is lent lies within them (AgainLaws).
use Rattle.std.proofs.Common.{refl, sym}
use Rattle.std.proofs.lemmas.List.{length-take-le}
use Rattle.decode.specs.Read.{lengths_of}
use Rattle.read_records.specs.RecordOutcome.{outcome_within}
use Rattle.own_records.proofs.AgainLaws.{front_within}
use Rattle.own_records.proofs.written_again.Goals as goal

pub slice_bounds-records-end : goal.slice_bounds-records-end
slice_bounds-records-end c =
    let a = c.read_records-a in
    front_within a.result a.new.tokens a.new.nodes a.new.keys a.new.work a.new.records a.result.nodes 8
    (outcome_within c.args.kind c.args.script.now (lengths_of c.args.tokens.now c.args.nodes.now c.args.keys.now c.args.work.now) 8)
    a.ensures refl a.auto.records

pub slice_bounds-encode_records-end : goal.slice_bounds-encode_records-end
slice_bounds-encode_records-end c =
    let a = c.read_records-a in
    sym (length-take-le a.result.nodes a.new.records (front_within a.result a.new.tokens a.new.nodes a.new.keys a.new.work a.new.records a.result.nodes 8
    (outcome_within c.args.kind c.args.script.now (lengths_of c.args.tokens.now c.args.nodes.now c.args.keys.now c.args.work.now) 8)
    a.ensures refl a.auto.records))
