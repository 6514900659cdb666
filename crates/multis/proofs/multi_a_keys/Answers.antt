-- `multis::multi_a_keys` meets its contract: the loop of MultiALaws.
use Rattle.multis.proofs.MultiALaws.{added_again, added_refused, is_added}
use Rattle.multis.proofs.multi_a_keys.Goals as goal
use Rattle.std.proofs.Common.{ap}
use Rattle.std.specs.Prelude.{not}

pub keys-preserved : goal.keys-preserved
keys-preserved c = added_again c.args.segwit c.args.from c.args.k c.keys.tokens c.keys.n c.keys.invariant (is_added c.check_sig_add_ahead.ensures (ap not c.if-not-check_sig_add_ahead.false)) c.in-Ok.rest c.in-Ok.ensures

pub returns-in-Err : goal.returns-in-Err
returns-in-Err c = λ script. added_refused c.args.segwit c.args.from c.args.k c.keys.tokens c.keys.n c.keys.invariant (is_added c.check_sig_add_ahead.ensures (ap not c.if-not-check_sig_add_ahead.false)) script c.in-Err.ensures
