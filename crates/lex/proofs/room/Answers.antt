-- `lex::room` meets its contract.
use Rattle.instruction.proofs.SizeLaws.{one_fits, two_fits}
use Rattle.lex.proofs.FillLaws.{of_the_rest, count_begun, count_refused, count_one, count_two, count_ended, count_long}
use Rattle.lex.proofs.room.Goals as goal
use Rattle.lex.specs.Script.{script_limit, refusal}
use Rattle.std.proofs.Common.{ℕ, ◌∙◌, sym, Ok, Err, ap, refl, arith}

pub returns-then-s-gt-SCRIPT_LIMIT : goal.returns-then-s-gt-SCRIPT_LIMIT
unfolding script_limit
returns-then-s-gt-SCRIPT_LIMIT c = count_long c.args.s.now c.if-s-gt-SCRIPT_LIMIT.true (ap Err c.refuse.ensures)

pub loop-at-init : goal.loop-at-init
unfolding script_limit
loop-at-init c = count_begun c.args.s.now c.if-s-gt-SCRIPT_LIMIT.false

pub returns-in-Err : goal.returns-in-Err
returns-in-Err c = count_refused c.args.s.now c.loop-at.at c.loop-at.n c.loop-at.last c.loop-at.invariant c.loop-at-test.true _ refl refl (c.in-Err.error, sym c.in-Err.is ∙ of_the_rest c.args.s.now c.loop-at.at c.loop-at.last c.instruction.ensures, c.refuse-in-Err.ensures ∙ ap (λ (k : ℕ). refusal k c.loop-at.at) c.number.ensures)

pub overflow_add-at : goal.overflow_add-at
overflow_add-at c = omega (arith, c.loop-at.invariant.low, one_fits c.args.s.now c.loop-at.at c.loop-at.last c.loop-at-test.true (sym c.in-Ok.is ∙ of_the_rest c.args.s.now c.loop-at.at c.loop-at.last c.instruction.ensures) _ _ _ (ap Ok c.in-One.is))

pub loop-at-smaller-in-One : goal.loop-at-smaller-in-One
loop-at-smaller-in-One c = omega (arith, one_fits c.args.s.now c.loop-at.at c.loop-at.last c.loop-at-test.true (sym c.in-Ok.is ∙ of_the_rest c.args.s.now c.loop-at.at c.loop-at.last c.instruction.ensures) _ _ _ (ap Ok c.in-One.is))

pub loop-at-preserved-in-One : goal.loop-at-preserved-in-One
loop-at-preserved-in-One c = count_one c.args.s.now c.loop-at.at c.loop-at.n c.loop-at.last c.loop-at.invariant c.loop-at-test.true _ (sym c.in-Ok.is ∙ of_the_rest c.args.s.now c.loop-at.at c.loop-at.last c.instruction.ensures) _ _ _ (ap Ok c.in-One.is) (one_fits c.args.s.now c.loop-at.at c.loop-at.last c.loop-at-test.true (sym c.in-Ok.is ∙ of_the_rest c.args.s.now c.loop-at.at c.loop-at.last c.instruction.ensures) _ _ _ (ap Ok c.in-One.is))

pub overflow_add-at-in-Two : goal.overflow_add-at-in-Two
overflow_add-at-in-Two c = omega (arith, c.loop-at.invariant.low, two_fits c.args.s.now c.loop-at.at c.loop-at.last c.loop-at-test.true (sym c.in-Ok.is ∙ of_the_rest c.args.s.now c.loop-at.at c.loop-at.last c.instruction.ensures) _ _ (ap Ok c.in-Two.is))

pub loop-at-smaller : goal.loop-at-smaller
loop-at-smaller c = omega (arith, two_fits c.args.s.now c.loop-at.at c.loop-at.last c.loop-at-test.true (sym c.in-Ok.is ∙ of_the_rest c.args.s.now c.loop-at.at c.loop-at.last c.instruction.ensures) _ _ (ap Ok c.in-Two.is))

pub loop-at-preserved : goal.loop-at-preserved
loop-at-preserved c = count_two c.args.s.now c.loop-at.at c.loop-at.n c.loop-at.last c.loop-at.invariant c.loop-at-test.true _ (sym c.in-Ok.is ∙ of_the_rest c.args.s.now c.loop-at.at c.loop-at.last c.instruction.ensures) _ _ (ap Ok c.in-Two.is) (two_fits c.args.s.now c.loop-at.at c.loop-at.last c.loop-at-test.true (sym c.in-Ok.is ∙ of_the_rest c.args.s.now c.loop-at.at c.loop-at.last c.instruction.ensures) _ _ (ap Ok c.in-Two.is))

pub returns : goal.returns
returns c = count_ended c.args.s.now c.loop-at.at c.loop-at.n c.loop-at.last c.loop-at.invariant c.loop-at-test.false refl
