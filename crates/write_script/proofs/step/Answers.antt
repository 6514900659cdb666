-- `write_script::step` meets its contract.
use Rattle.std.proofs.Common.{arith, ◌∙◌, sym}
use Rattle.write_script.proofs.StepLaws.{work_inside, lexeme_ready, lexeme_kept}
use Rattle.write_script.proofs.step.Goals as goal

pub offset_bounds-work-w : goal.offset_bounds-work-w
offset_bounds-work-w c = omega (arith, work_inside c.args.source.segwit c.args.source.nodes.now c.args.source.keys.now c.args.source.material.now c.requires.before c.requires.all c.args.work.now c.args.out.now c.args.s c.requires.going_on)

pub bounds-work-w : goal.bounds-work-w
bounds-work-w c = omega (arith, work_inside c.args.source.segwit c.args.source.nodes.now c.args.source.keys.now c.args.source.material.now c.requires.before c.requires.all c.args.work.now c.args.out.now c.args.s c.requires.going_on)

pub emit_piece-requires : goal.emit_piece-requires
emit_piece-requires c = lexeme_ready c.args.source.segwit c.args.source.nodes.now c.args.source.keys.now c.args.source.material.now c.requires.going_on c.requires.some_work (λ e. c.if-piece-from.false (e ∙ sym c.from.ensures))

pub returns : goal.returns
returns c = λ before all g. lexeme_kept c.args.source.segwit c.args.source.nodes.now c.args.source.keys.now c.args.source.material.now g c.requires.some_work (λ e. c.if-piece-from.false (e ∙ sym c.from.ensures)) c.emit_piece.new.out c.emit_piece.result c.emit_piece.ensures.0 c.emit_piece.ensures.1
