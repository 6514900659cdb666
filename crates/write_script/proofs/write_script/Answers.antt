-- `write_script::write_script` meets its contract.
use Rattle.encoding.specs.Encoding.{tree_in}
use Rattle.write_script.proofs.PassLaws.{begun, ended}
use Rattle.write_script.proofs.write_script.Goals as goal
use Rattle.write_script.specs.Writing.{bytes_of}
use mathlib.Core.Path.{refl}

pub loop-s-init : goal.loop-s-init
loop-s-init c = rw c.from.ensures (begun c.args.source.segwit c.args.source.nodes.now c.args.source.keys.now c.args.source.material.now c.args.work.now c.args.out.now c.requires, refl, refl)

pub loop-s-smaller : goal.loop-s-smaller
loop-s-smaller c = (c.step-s.ensures c.args.out.now (bytes_of (tree_in c.args.source.segwit c.args.source.nodes.now c.args.source.keys.now c.args.source.material.now)) c.loop-s.invariant.0).1

pub returns : goal.returns
returns c = ended c.args.source.segwit c.args.source.nodes.now c.args.source.keys.now c.args.source.material.now c.args.out.now (bytes_of (tree_in c.args.source.segwit c.args.source.nodes.now c.args.source.keys.now c.args.source.material.now)) c.loop-s.work c.loop-s.out c.loop-s.s c.loop-s.invariant.0 c.loop-s-test.false
