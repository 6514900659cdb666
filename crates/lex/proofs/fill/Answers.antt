-- `lex::fill` meets its contract.
use Rattle.instruction.proofs.SizeLaws.{one_fits, two_fits}
use Rattle.lex.proofs.FillLaws.{of_the_rest, fill_begun, fill_refused, fill_full_one, fill_full_two, fill_one, fill_two, fill_ended}
use Rattle.lex.proofs.fill.Goals as goal
use Rattle.lex.specs.Script.{refusal}
use Rattle.std.proofs.Common.{ℕ, ◌∙◌, sym, length, Ok, Err, ap, refl, arith}

pub loop-at-init : goal.loop-at-init
loop-at-init c = fill_begun c.args.s.now (length c.args.t.now) c.args.t.now c.requires.0 refl c.requires.1

pub returns-in-Err : goal.returns-in-Err
returns-in-Err c = fill_refused c.args.s.now (length c.args.t.now) c.loop-at.t c.loop-at.at c.loop-at.n c.loop-at.last c.loop-at.invariant c.loop-at-test.true _ refl _ refl (c.in-Err.error, sym c.in-Err.is ∙ of_the_rest c.args.s.now c.loop-at.at c.loop-at.last c.instruction.ensures, c.refuse.ensures ∙ ap (λ (k : ℕ). refusal k c.loop-at.at) c.number.ensures)

pub returns-then-room-n-lt1 : goal.returns-then-room-n-lt1
returns-then-room-n-lt1 c = fill_full_one c.args.s.now (length c.args.t.now) c.loop-at.t c.loop-at.at c.loop-at.n c.loop-at.last c.loop-at.invariant c.loop-at-test.true _ (sym c.in-Ok.is ∙ of_the_rest c.args.s.now c.loop-at.at c.loop-at.last c.instruction.ensures) _ _ _ _ (ap Ok c.in-One.is) c.if-room-n-lt1.true (ap Err c.refuse-then-room-n-lt1.ensures)

pub overflow_add-at : goal.overflow_add-at
overflow_add-at c = omega (arith, one_fits c.args.s.now c.loop-at.at c.loop-at.last c.loop-at-test.true (sym c.in-Ok.is ∙ of_the_rest c.args.s.now c.loop-at.at c.loop-at.last c.instruction.ensures) _ _ _ (ap Ok c.in-One.is))

pub loop-at-smaller-in-One : goal.loop-at-smaller-in-One
loop-at-smaller-in-One c = omega (arith, one_fits c.args.s.now c.loop-at.at c.loop-at.last c.loop-at-test.true (sym c.in-Ok.is ∙ of_the_rest c.args.s.now c.loop-at.at c.loop-at.last c.instruction.ensures) _ _ _ (ap Ok c.in-One.is))

pub loop-at-preserved-in-One : goal.loop-at-preserved-in-One
loop-at-preserved-in-One c = fill_one c.args.s.now (length c.args.t.now) c.loop-at.t c.loop-at.at c.loop-at.n c.loop-at.last c.loop-at.invariant c.loop-at-test.true _ (sym c.in-Ok.is ∙ of_the_rest c.args.s.now c.loop-at.at c.loop-at.last c.instruction.ensures) _ _ _ _ (ap Ok c.in-One.is) (omega arith) c.put.auto.t c.put.ensures

pub returns-then-room-n-lt2 : goal.returns-then-room-n-lt2
returns-then-room-n-lt2 c = fill_full_two c.args.s.now (length c.args.t.now) c.loop-at.t c.loop-at.at c.loop-at.n c.loop-at.last c.loop-at.invariant c.loop-at-test.true _ (sym c.in-Ok.is ∙ of_the_rest c.args.s.now c.loop-at.at c.loop-at.last c.instruction.ensures) _ _ _ (ap Ok c.in-Two.is) c.if-room-n-lt2.true (ap Err c.refuse-then-room-n-lt2.ensures)

pub overflow_add-at-in-Two : goal.overflow_add-at-in-Two
overflow_add-at-in-Two c = omega (arith, two_fits c.args.s.now c.loop-at.at c.loop-at.last c.loop-at-test.true (sym c.in-Ok.is ∙ of_the_rest c.args.s.now c.loop-at.at c.loop-at.last c.instruction.ensures) _ _ (ap Ok c.in-Two.is))

pub loop-at-smaller : goal.loop-at-smaller
loop-at-smaller c = omega (arith, two_fits c.args.s.now c.loop-at.at c.loop-at.last c.loop-at-test.true (sym c.in-Ok.is ∙ of_the_rest c.args.s.now c.loop-at.at c.loop-at.last c.instruction.ensures) _ _ (ap Ok c.in-Two.is))

pub loop-at-preserved : goal.loop-at-preserved
loop-at-preserved c = fill_two c.args.s.now (length c.args.t.now) c.loop-at.t c.loop-at.at c.loop-at.n c.loop-at.last c.loop-at.invariant c.loop-at-test.true _ (sym c.in-Ok.is ∙ of_the_rest c.args.s.now c.loop-at.at c.loop-at.last c.instruction.ensures) _ _ _ _ (ap Ok c.in-Two.is) (omega arith) c.put-in-Two.auto.t c.put-in-Two-2.auto.t c.put-in-Two.ensures c.put-in-Two-2.ensures

pub returns : goal.returns
returns c = fill_ended c.args.s.now (length c.args.t.now) c.loop-at.t c.loop-at.at c.loop-at.n c.loop-at.last c.loop-at.invariant c.loop-at-test.false
