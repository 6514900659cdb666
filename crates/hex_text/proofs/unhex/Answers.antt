-- `hex_text::unhex` meets its contract.
use Rattle.hex_text.proofs.ReadingLaws.{again, full, first_ends, second_ends}
use Rattle.hex_text.proofs.unhex.Goals as goal
use mathlib.Core.Path.{sym, ◌∙◌}
use native.Mathlib.Omega.{arith}

pub loop-n-preserved : goal.loop-n-preserved
loop-n-preserved c = again c.loop-n.invariant _ _ (omega (arith, c.loop-n-test.true, c.min-most.ensures)) (omega (arith, c.loop-n-test.true, c.min-most.ensures)) c.in-Some-Some.ensures.value c.in-Some-Some.ensures'.value

pub returns-in_default : goal.returns-in_default
returns-in_default c = second_ends c.loop-n.invariant (omega (arith, c.loop-n-test.true, c.min-most.ensures)) (omega (arith, c.loop-n-test.true, c.min-most.ensures)) (c.in_default.ensures'.value)

pub returns-in_default-2 : goal.returns-in_default-2
returns-in_default-2 c = first_ends c.loop-n.invariant (omega (arith, c.loop-n-test.true, c.min-most.ensures)) (omega (arith, c.loop-n-test.true, c.min-most.ensures)) (sym c.in_default.is-0 ∙ c.digit.ensures.value)

pub returns : goal.returns
returns c = full c.loop-n.invariant c.min-most.ensures c.loop-n.auto.n-end c.loop-n-test.false
