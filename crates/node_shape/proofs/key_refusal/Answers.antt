-- `node_shape::key_refusal` meets its contract. Test by test.
use Rattle.node_shape.proofs.ValueLaws.{first, second, key_tested}
use Rattle.node_shape.proofs.key_refusal.Goals as goal

pub returns-then-not-key_form : goal.returns-then-not-key_form
returns-then-not-key_form c = second _ 0 11 (key_tested c.args.segwit c.args.material.now c.args.place c.key_code.ensures c.key_form.ensures) c.if-not-key_form.true

pub returns : goal.returns
returns c = first _ 0 11 (key_tested c.args.segwit c.args.material.now c.args.place c.key_code.ensures c.key_form.ensures) c.if-not-key_form.false
