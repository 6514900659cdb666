-- `run::run` meets its contract.
use Prim.Native.Nat.{ℕ, ◌+◌}
use Rattle.writes.specs.Written.{counts}
use Rattle.perform.specs.View.{room_of}
use Rattle.row.specs.Tokens.{lexemes_left}
use Rattle.row.specs.declared.NonTerm.TheVariants as non-term
use Rattle.run.proofs.EndLaws.{some_node, closed, full_at_start, same_room, same_rooms}
use Rattle.run.proofs.RunLaws.{went_from, halted_from, entered_all, entered_none, begun, turned, lighter, refuses, nodes_inside}
use Rattle.run.proofs.SteppingLaws.{stepping}
use Rattle.std.proofs.lemmas.Result.{err_from_is_err_and}
use Rattle.run.proofs.run.Goals as goal
use Rattle.work_list.proofs.WorkLaws.{entered}
use Rattle.work_list.specs.Work.{work_of}
use mathlib.Core.List.{List, [], ◌∷◌, reverse_aux}
use mathlib.Core.Path.{refl, ap, ◌∙◌}
use native.Mathlib.Omega.{arith}

pub returns-in_err-s : goal.returns-in_err-s
returns-in_err-s c =
    let p = err_from_is_err_and c.from_residual.result c.from_residual.ensures.1 in
    let h = halted_from c.enter.result (counts c.args.count 0 0 0) 0 c.in_err-s.ensures in
    let e = entered_none c.enter.ensures h.1 in
    rw (p.1, p.2) (full_at_start c.args.segwit c.args.script.now c.args.tokens.now c.args.count c.args.nodes.now c.args.keys.now c.args.work.now e.0 c.requires.count_bound.1 c.requires.count_bound.2 e.1 h.2)

pub loop-s-init : goal.loop-s-init
loop-s-init c =
    let e = entered_all c.enter.ensures (went_from c.enter.result (counts c.args.count 0 0 0) 0 c.in_ok-s.ensures) in
    let limits = room_of c.args.nodes.now c.args.keys.now c.enter.new.work in
    let begin = begun c.args.segwit c.args.script.now c.args.tokens.now c.args.count limits c.args.nodes.now c.args.keys.now c.enter.new.work refl (omega (arith, c.enter.auto.work, e.0)) (ap (λ (t : List ℕ). work_of t 2) e.1.0 ∙ entered c.args.work.now 0 (non-term.MaybeAndV ∷ non-term.Expression ∷ []) e.0 (tt, (tt, tt))) c.requires.count_bound.1 c.requires.count_bound.2 in
    (rw e.1.1 begin, (refl, (refl, refl)))

pub step-got-requires : goal.step-got-requires
step-got-requires c = stepping c.args.segwit c.args.script.now c.args.tokens.now c.args.count (room_of c.args.nodes.now c.args.keys.now c.enter.new.work) c.loop-s.invariant.0 c.loop-s-test.true c.requires.in_table c.requires.count_bound.0

pub loop-s-smaller : goal.loop-s-smaller
loop-s-smaller c = lighter c.args.segwit c.args.script.now c.args.tokens.now c.args.count (room_of c.args.nodes.now c.args.keys.now c.enter.new.work) c.loop-s.invariant.0 c.loop-s-test.true _ (went_from c.step-got.result c.loop-s.s (c.loop-s.steps + 1) c.in_ok-s-2.ensures) c.step-got.ensures (same_rooms c.loop-s.nodes c.loop-s.keys c.loop-s.work c.step-got.new.nodes c.step-got.new.keys c.step-got.new.work (room_of c.args.nodes.now c.args.keys.now c.enter.new.work) c.step-got.auto.nodes c.step-got.auto.keys c.step-got.auto.work c.loop-s.invariant.0.rooms)

pub loop-s-preserved : goal.loop-s-preserved
loop-s-preserved c = (turned c.args.segwit c.args.script.now c.args.tokens.now c.args.count (room_of c.args.nodes.now c.args.keys.now c.enter.new.work) c.loop-s.invariant.0 c.loop-s-test.true _ (went_from c.step-got.result c.loop-s.s (c.loop-s.steps + 1) c.in_ok-s-2.ensures) c.step-got.ensures (same_rooms c.loop-s.nodes c.loop-s.keys c.loop-s.work c.step-got.new.nodes c.step-got.new.keys c.step-got.new.work (room_of c.args.nodes.now c.args.keys.now c.enter.new.work) c.step-got.auto.nodes c.step-got.auto.keys c.step-got.auto.work c.loop-s.invariant.0.rooms), (c.step-got.auto.nodes ∙ c.loop-s.invariant.1.0, (c.step-got.auto.keys ∙ c.loop-s.invariant.1.1.0, c.step-got.auto.work ∙ c.loop-s.invariant.1.1.1)))

pub returns-in_err-s-2 : goal.returns-in_err-s-2
returns-in_err-s-2 c =
    let p = err_from_is_err_and c.from_residual-in_err-s-2.result c.from_residual-in_err-s-2.ensures.1 in
    let h = halted_from c.step-got.result c.loop-s.s (c.loop-s.steps + 1) c.in_err-s-2.ensures in
    rw (p.1, p.2) (same_room c.args.segwit c.args.nodes.now c.args.keys.now c.enter.new.work c.args.work.now (reverse_aux (lexemes_left c.args.script.now c.args.tokens.now c.args.count) []) c.step-got.new.nodes c.step-got.new.keys _ c.enter.auto.work (refuses c.args.segwit c.args.script.now c.args.tokens.now c.args.count (room_of c.args.nodes.now c.args.keys.now c.enter.new.work) c.loop-s.invariant.0 c.loop-s-test.true h.0 h.1 c.step-got.ensures h.2 refl))

pub close-requires : goal.close-requires
close-requires c = (some_node c.args.segwit c.args.script.now c.args.tokens.now c.args.count (room_of c.args.nodes.now c.args.keys.now c.enter.new.work) c.loop-s.invariant.0 (omega arith), nodes_inside c.args.segwit c.args.script.now c.args.tokens.now c.args.count (room_of c.args.nodes.now c.args.keys.now c.enter.new.work) c.loop-s.invariant.0)

pub returns : goal.returns
returns c = same_room c.args.segwit c.args.nodes.now c.args.keys.now c.enter.new.work c.args.work.now (reverse_aux (lexemes_left c.args.script.now c.args.tokens.now c.args.count) []) c.loop-s.nodes c.loop-s.keys c.close.result c.enter.auto.work (closed c.args.segwit c.args.script.now c.args.tokens.now c.args.count (room_of c.args.nodes.now c.args.keys.now c.enter.new.work) c.loop-s.invariant.0 (omega arith) c.close.ensures)
