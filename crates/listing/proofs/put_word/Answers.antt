-- `listing::put_word` meets its contract. A byte behind the digits (WriteLaws).
use Rattle.listing.proofs.WriteLaws.{word_put}
use Rattle.listing.proofs.put_word.Goals as goal
use native.Mathlib.Omega.{arith}

pub returns : goal.returns
returns c = (omega (arith, c.put_digits-end.ensures.0), word_put c.args.out.now c.args.at c.args.width c.args.n c.args.after c.requires c.put_digits-end.ensures.0 c.put_digits-end.ensures.1)
