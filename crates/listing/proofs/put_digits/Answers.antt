-- `listing::put_digits` meets its contract. The loop of WriteLaws: what is left to write comes to the whole number.
use Rattle.listing.proofs.WriteLaws.{digit_put, digits_put}
use Rattle.listing.proofs.put_digits.Goals as goal
use mathlib.Core.Path.{refl}

pub loop-left-preserved : goal.loop-left-preserved
loop-left-preserved c = digit_put c.args.out.now c.args.at c.args.width c.args.n c.loop-left.out c.loop-left.rest c.loop-left.left c.requires c.loop-left.invariant c.loop-left-test.true c.glyph.ensures

pub returns : goal.returns
returns c = (refl, digits_put c.args.out.now c.args.at c.args.width c.args.n c.loop-left.out c.loop-left.rest c.loop-left.left c.loop-left.invariant c.loop-left-test.false)
