-- `decode::read` meets its contract.
use Rattle.decode.proofs.ReadLaws.{unknown_kind, not_lexed, read_on_lem, lexes_not}
use Rattle.decode.proofs.read.Goals as goal
use mathlib.Core.Path.{refl}

pub returns-then-kind-gt1 : goal.returns-then-kind-gt1
returns-then-kind-gt1 c = unknown_kind c.args.kind c.args.script.now c.args.tokens.now c.args.nodes.now c.args.keys.now c.args.work.now c.if-kind-gt1.true c.refused.result _ _ _ _ c.refused.ensures (c.fill-then-kind-gt1.ensures.after (λ y e. e)) (c.fill.ensures.after (λ y e. e)) (c.fill-2.ensures.after (λ y e. e)) (c.fill-then-kind-gt1-2.ensures.after (λ y e. e))

pub returns-in-Ok : goal.returns-in-Ok
returns-in-Ok c = read_on_lem c.args.kind c.args.script.now c.args.tokens.now c.args.nodes.now c.args.keys.now c.args.work.now c.if-kind-gt1.false _ c.lex.new.t c.fill.new.self c.fill-2.new.self c.args.work.now c.lex.auto.t c.fill.auto.self c.fill-2.auto.self refl c.decoded.ensures

pub returns-in-Err : goal.returns-in-Err
returns-in-Err c = not_lexed c.args.kind c.args.script.now c.args.tokens.now c.args.nodes.now c.args.keys.now c.args.work.now c.if-kind-gt1.false _ _ c.refused-in-Err.result _ _ _ _ (lexes_not c.args.script.now c.args.tokens.now c.lex.new.t _ _ c.lex.ensures c.in-Err.is) c.refused-in-Err.ensures (c.fill.ensures.after (λ y e. e)) (c.fill-2.ensures.after (λ y e. e)) (c.fill-in-Err.ensures.after (λ y e. e))
