-- `write_script::take_node` meets its contract.
use Rattle.std.proofs.Common.{arith, refl}
use Rattle.write_script.proofs.NodeLaws.{some_node, template_fits, template_kept, thresh_some, thresh_fits, thresh_kept, multi_ready, multi_kept, multi_a_some, multi_a_ready, multi_a_kept}
use Rattle.write_script.proofs.take_node.Goals as goal

pub overflow_sub-i : goal.overflow_sub-i
overflow_sub-i c = (some_node c.args.source.segwit c.args.source.nodes.now c.args.source.keys.now c.args.source.material.now c.requires.going.before c.requires.going.all c.args.work.now c.args.out.now c.args.s c.requires.going.going_on c.requires.going.some_work c.requires.work_value).0

pub overflow_sub-count : goal.overflow_sub-count
overflow_sub-count c = thresh_some c.args.source.segwit c.args.source.nodes.now c.args.source.keys.now c.args.source.material.now c.requires.going.before c.requires.going.all c.args.work.now c.args.out.now c.args.s c.requires.going.going_on c.requires.going.some_work c.requires.work_value (omega arith) (omega arith) c.in-26.is _ refl

pub enter_thresh-requires : goal.enter_thresh-requires
enter_thresh-requires c = thresh_fits c.args.source.segwit c.args.source.nodes.now c.args.source.keys.now c.args.source.material.now c.requires.going.before c.requires.going.all c.args.work.now c.args.out.now c.args.s c.requires.going.going_on c.requires.going.some_work c.requires.work_value (omega arith) (omega arith) c.in-26.is _ refl

pub returns-in-26 : goal.returns-in-26
returns-in-26 c = λ before all g. thresh_kept c.args.source.segwit c.args.source.nodes.now c.args.source.keys.now c.args.source.material.now before all c.args.work.now c.args.out.now c.args.s g c.requires.going.some_work c.requires.work_value (omega arith) (omega arith) c.in-26.is _ refl c.enter_thresh.new.work c.enter_thresh.ensures.0 c.enter_thresh.result c.enter_thresh.ensures.1

pub emit_multi-requires : goal.emit_multi-requires
emit_multi-requires c = multi_ready c.args.source.segwit c.args.source.nodes.now c.args.source.keys.now c.args.source.material.now c.requires.going.before c.requires.going.all c.args.work.now c.args.out.now c.args.s c.requires.going.going_on c.requires.going.some_work c.requires.work_value c.in-27.is _ _ refl refl (omega arith)

pub returns-in-27 : goal.returns-in-27
returns-in-27 c = λ before all g. multi_kept c.args.source.segwit c.args.source.nodes.now c.args.source.keys.now c.args.source.material.now before all c.args.work.now c.args.out.now c.args.s g c.requires.going.some_work c.requires.work_value c.in-27.is _ _ refl refl c.emit_multi.new.out c.emit_multi.result c.emit_multi.ensures

pub overflow_sub-count-in-28 : goal.overflow_sub-count-in-28
overflow_sub-count-in-28 c = multi_a_some c.args.source.segwit c.args.source.nodes.now c.args.source.keys.now c.args.source.material.now c.requires.going.before c.requires.going.all c.args.work.now c.args.out.now c.args.s c.requires.going.going_on c.requires.going.some_work c.requires.work_value c.in-28.is _ _ refl refl

pub emit_multi_a-requires : goal.emit_multi_a-requires
emit_multi_a-requires c = multi_a_ready c.args.source.segwit c.args.source.nodes.now c.args.source.keys.now c.args.source.material.now c.requires.going.before c.requires.going.all c.args.work.now c.args.out.now c.args.s c.requires.going.going_on c.requires.going.some_work c.requires.work_value c.in-28.is _ _ refl refl

pub returns-in-28 : goal.returns-in-28
returns-in-28 c = λ before all g. multi_a_kept c.args.source.segwit c.args.source.nodes.now c.args.source.keys.now c.args.source.material.now before all c.args.work.now c.args.out.now c.args.s g c.requires.going.some_work c.requires.work_value c.in-28.is _ _ refl refl c.emit_multi_a.new.out c.emit_multi_a.result c.emit_multi_a.ensures

pub enter-requires : goal.enter-requires
enter-requires c = template_fits c.args.source.segwit c.args.source.nodes.now c.args.source.keys.now c.args.source.material.now c.requires.going.before c.requires.going.all c.args.work.now c.args.out.now c.args.s c.requires.going.going_on c.requires.going.some_work c.requires.work_value (omega arith) (omega arith) (λ e. omega arith) (λ e. omega arith) (λ e. omega arith) c.template.result.now c.template.ensures

pub returns-in_default : goal.returns-in_default
returns-in_default c = λ before all g. template_kept c.args.source.segwit c.args.source.nodes.now c.args.source.keys.now c.args.source.material.now before all c.args.work.now c.args.out.now c.args.s g c.requires.going.some_work c.requires.work_value (omega arith) (omega arith) (λ e. omega arith) (λ e. omega arith) (λ e. omega arith) c.template.result.now c.template.ensures c.enter.new.work c.enter.ensures.0 c.enter.result c.enter.ensures.1
