-- `multis::multi_keys` meets its contract: the loop of MultiLaws.
use Rattle.multis.proofs.MultiLaws.{again, key_refused}
use Rattle.multis.proofs.multi_keys.Goals as goal
use Rattle.multis.specs.Keys.{keys_from}
use Rattle.row.proofs.TakenLaws.{dry}
use Rattle.row.specs.Next.{IsTaken}
use Rattle.standard.specs.Rows as point
use Prim.Native.Nat.{ℕ, ◌-◌}
use mathlib.Core.List.{List}
use mathlib.Core.Path.{subst, ◌∙◌}
use native.Mathlib.Omega.{arith}

pub returns-in_err-token : goal.returns-in_err-token
returns-in_err-token c = dry c.args.segwit (point.multi_keys (c.args.n - c.loop.counter) (keys_from c.args.script.now c.args.from.table.now c.loop.counter c.loop.tokens.left)) c.args.script.now c.args.from.table.now c.loop.tokens.left c.from_residual.result c.in_err-token.ensures c.from_residual.ensures.1 ∙ c.loop.invariant.same

pub returns-in_err-multi_key : goal.returns-in_err-multi_key
returns-in_err-multi_key c = key_refused c.args.segwit c.args.script.now c.args.from.table.now c.loop.tokens.left (subst (λ (y : List ℕ). IsTaken y c.loop.tokens.left c.in_ok-token.token) c.loop.invariant.its c.in_ok-token.ensures) (c.args.n - c.loop.counter) (keys_from c.args.script.now c.args.from.table.now c.loop.counter c.loop.tokens.left) c.from_residual-in_err-multi_key.result (omega arith) c.multi_key.ensures c.in_err-multi_key.was c.from_residual-in_err-multi_key.ensures.1 ∙ c.loop.invariant.same

pub loop-preserved : goal.loop-preserved
loop-preserved c = again c.args.segwit c.args.script.now c.args.from.table.now c.args.from.left c.args.n c.loop.tokens c.loop.counter c.loop.invariant c.loop-test.true c.in_ok-token.ensures c.multi_key.ensures c.in_ok-multi_key.was
