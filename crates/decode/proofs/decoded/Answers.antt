-- `decode::decoded` meets its contract.
use Rattle.decode.proofs.ReadLaws.{zeros_are_behind, tokens_inside, tokens_few, tokens_behind, in_table, accepts, refuses}
use Rattle.decode.proofs.decoded.Goals as goal
use Rattle.tables.specs.Tables.{zeros}
use mathlib.Core.Path.{ap, ◌∙◌}
use native.Mathlib.Omega.{arith}

pub run-ran-requires-clause-in_table : goal.run-ran-requires-clause-in_table
run-ran-requires-clause-in_table c = in_table c.args.script.now c.args.tokens.now c.args.count c.requires.lexes (λ i. omega (arith, c.shared_slice_known-1.given i))

pub run-ran-requires-clause-count_bound : goal.run-ran-requires-clause-count_bound
run-ran-requires-clause-count_bound c = (tokens_few c.args.script.now c.args.tokens.now c.args.count c.requires.lexes, zeros_are_behind c.args.nodes.now 0 c.requires.nodes_value.0, zeros_are_behind c.args.keys.now 0 c.requires.nodes_value.1)

pub returns-in-Ok : goal.returns-in-Ok
returns-in-Ok c = accepts c.args.script.now c.args.tokens.now c.args.count c.requires.lexes c.args.segwit c.args.nodes.now c.args.keys.now c.args.work.now c.run-ran.new.nodes c.run-ran.new.keys c.run-ran.auto.nodes c.run-ran.auto.keys c.in-Ok.ran c.in-Ok.ensures c.fill.new.self (c.fill.ensures.after (λ y e. e) ∙ ap zeros c.run-ran.auto.work)

pub place_of-place-requires : goal.place_of-place-requires
place_of-place-requires c = tokens_inside c.args.script.now c.args.tokens.now c.args.count c.requires.lexes

pub overflow_mul-count : goal.overflow_mul-count
overflow_mul-count c = omega (arith, tokens_few c.args.script.now c.args.tokens.now c.args.count c.requires.lexes)

pub wipe-requires : goal.wipe-requires
wipe-requires c = (tokens_inside c.args.script.now c.args.tokens.now c.args.count c.requires.lexes, tokens_behind c.args.script.now c.args.tokens.now c.args.count c.requires.lexes)

pub returns-in-Err : goal.returns-in-Err
returns-in-Err c = refuses c.args.script.now c.args.tokens.now c.args.count c.requires.lexes c.args.segwit c.args.nodes.now c.args.keys.now c.args.work.now c.run-ran.new.nodes c.run-ran.new.keys c.run-ran.auto.nodes c.run-ran.auto.keys c.in-Err.halted c.in-Err.ensures c.refused.result c.place_of-place.result _ _ _ _ c.refused.ensures c.place_of-place.ensures c.wipe.ensures (c.wipe-in-Err.ensures ∙ ap zeros c.run-ran.auto.nodes) (c.wipe-in-Err-2.ensures ∙ ap zeros c.run-ran.auto.keys) (c.fill.ensures.after (λ y e. e) ∙ ap zeros c.run-ran.auto.work)
