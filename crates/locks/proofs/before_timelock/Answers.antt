-- `locks::before_timelock` meets its contract: token by token, by TakenLaws of `row`.
use Rattle.locks.proofs.LeafLaws.{time_is}
use Rattle.locks.proofs.before_timelock.Goals as goal
use Rattle.row.proofs.TakenLaws.{dry, arm, unfit}
use Rattle.locks.specs.Leaves.{time_row}
use Prim.Native.Nat.{ℕ}
use mathlib.Core.Path.{refl, ◌∙◌, ap}

pub returns-in_err-token-clause-older : goal.returns-in_err-token-clause-older
returns-in_err-token-clause-older c = λ is segwit script. dry segwit _ script c.args.tokens.table.now c.args.tokens.left c.from_residual.result c.in_err-token.ensures c.from_residual.ensures.1

pub returns-in_err-token-clause-after : goal.returns-in_err-token-clause-after
returns-in_err-token-clause-after c = λ is segwit script. dry segwit _ script c.args.tokens.table.now c.args.tokens.left c.from_residual.result c.in_err-token.ensures c.from_residual.ensures.1

pub returns-in-28-clause-older : goal.returns-in-28-clause-older
returns-in-28-clause-older c = λ is segwit script. arm segwit _ script c.args.tokens.table.now c.args.tokens.left c.in_ok-token.ensures 28 c.in-28.is (time_is script c.args.tokens.table.now 7 _ _ (c.timelock.ensures ∙ ap (λ (kind : ℕ). time_row kind c.in_ok-token.token.number c.in_ok-token.token.rest.left) is))

pub returns-in-28-clause-after : goal.returns-in-28-clause-after
returns-in-28-clause-after c = λ is segwit script. arm segwit _ script c.args.tokens.table.now c.args.tokens.left c.in_ok-token.ensures 28 c.in-28.is (time_is script c.args.tokens.table.now 6 _ _ (c.timelock.ensures ∙ ap (λ (kind : ℕ). time_row kind c.in_ok-token.token.number c.in_ok-token.token.rest.left) is))

pub returns-in_default-clause-older : goal.returns-in_default-clause-older
returns-in_default-clause-older c = λ is segwit script. unfit segwit _ script c.args.tokens.table.now c.args.tokens.left c.in_ok-token.ensures tt refl c.in_default.in_default-own.rest c.refuse.ensures

pub returns-in_default-clause-after : goal.returns-in_default-clause-after
returns-in_default-clause-after c = λ is segwit script. unfit segwit _ script c.args.tokens.table.now c.args.tokens.left c.in_ok-token.ensures tt refl c.in_default.in_default-own.rest c.refuse.ensures
