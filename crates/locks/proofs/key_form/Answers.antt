-- `locks::key_form` meets its contract: KeyLaws, test by test.
use Rattle.locks.proofs.KeyLaws.{by_first_byte}
use Rattle.locks.proofs.key_form.Goals as goal
use mathlib.Core.Path.{sym, ◌∙◌}

pub returns-in-Some-eq2 : goal.returns-in-Some-eq2
returns-in-Some-eq2 c = by_first_byte c.args.segwit c.args.script.now c.args.code c.args.offset 2 c.if-not-segwit.false c.if-code-eq-BYTES33.true (sym (c.in-Some-eq2.ensures.lookup.3.1 0) ∙ c.in-Some-eq2.field-0-test)

pub returns-in-Some-eq2-2 : goal.returns-in-Some-eq2-2
returns-in-Some-eq2-2 c = by_first_byte c.args.segwit c.args.script.now c.args.code c.args.offset 3 c.if-not-segwit.false c.if-code-eq-BYTES33.true (sym (c.in-Some-eq2.ensures.lookup.3.1 0) ∙ c.in-Some-eq2.field-0-test)
