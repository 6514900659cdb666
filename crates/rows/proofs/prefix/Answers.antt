-- `rows::prefix` meets its contract: token by token, by TakenLaws of `row`.
use Prim.Native.Nat.{ℕ}
use Rattle.row.proofs.TakenLaws.{dry, arm, unfit}
use Rattle.row.specs.Request.{asked_at, reading_of}
use Rattle.row.specs.declared.Row.TheVariants as row
use Rattle.rows.proofs.prefix.Goals as goal
use mathlib.Core.Path.{refl, sym, ap, ◌∙◌}

pub returns-in_err-token-clause-swap : goal.returns-in_err-token-clause-swap
returns-in_err-token-clause-swap c = λ is makes segwit script. dry segwit _ script c.args.tokens.table.now c.args.tokens.left c.from_residual.result c.in_err-token.ensures c.from_residual.ensures.1

pub returns-then-token-code-clause-swap : goal.returns-then-token-code-clause-swap
returns-then-token-code-clause-swap c = λ is makes segwit script. unfit segwit _ script c.args.tokens.table.now c.args.tokens.left c.in_ok-token.ensures tt refl (tt, λ e. c.if-token-code.true (e ∙ sym is)) c.refuse.ensures

pub returns-clause-swap : goal.returns-clause-swap
returns-clause-swap c = λ is makes segwit script. arm segwit _ script c.args.tokens.table.now c.args.tokens.left c.in_ok-token.ensures 22 (c.if-token-code.false ∙ is) (ap (reading_of script c.args.tokens.table.now) (c.ask.ensures ∙ ap (λ (kind : ℕ). asked_at (row.Reduce1 kind) c.in_ok-token.token.rest.left) makes))

pub returns-in_err-token-clause-alt : goal.returns-in_err-token-clause-alt
returns-in_err-token-clause-alt c = λ is makes segwit script. dry segwit _ script c.args.tokens.table.now c.args.tokens.left c.from_residual.result c.in_err-token.ensures c.from_residual.ensures.1

pub returns-then-token-code-clause-alt : goal.returns-then-token-code-clause-alt
returns-then-token-code-clause-alt c = λ is makes segwit script. unfit segwit _ script c.args.tokens.table.now c.args.tokens.left c.in_ok-token.ensures tt refl (tt, λ e. c.if-token-code.true (e ∙ sym is)) c.refuse.ensures

pub returns-clause-alt : goal.returns-clause-alt
returns-clause-alt c = λ is makes segwit script. arm segwit _ script c.args.tokens.table.now c.args.tokens.left c.in_ok-token.ensures 12 (c.if-token-code.false ∙ is) (ap (reading_of script c.args.tokens.table.now) (c.ask.ensures ∙ ap (λ (kind : ℕ). asked_at (row.Reduce1 kind) c.in_ok-token.token.rest.left) makes))
