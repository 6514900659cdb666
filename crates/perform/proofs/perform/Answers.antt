-- `perform::perform` meets its contract.
use Rattle.judge.specs.NodeTable.{node_of, making_of}
use Rattle.perform.proofs.ArmLaws.{told, leaf_told, keys_told, one_told, two_told, three_told}
use Rattle.perform.proofs.PerformLaws.{one_performs, two_performs, three_performs, many_performs, goes_performs}
use Rattle.perform.proofs.perform.Goals as goal
use mathlib.Core.Path.{refl}

pub returns-in-Enter0 : goal.returns-in-Enter0
returns-in-Enter0 c = told c.args.row _ c.in-Enter0.is (goes_performs c.args.tokens.now c.args.nodes.now c.args.keys.now c.args.work.now c.args.s c.requires.inside refl)

pub returns-in-Enter1 : goal.returns-in-Enter1
returns-in-Enter1 c = one_told c.args.tokens.now c.args.nodes.now c.args.keys.now c.args.work.now c.args.s c.requires.inside c.args.row c.requires.ready c.in-Enter1.is c.enter.ensures

pub returns-in-Enter2 : goal.returns-in-Enter2
returns-in-Enter2 c = two_told c.args.tokens.now c.args.nodes.now c.args.keys.now c.args.work.now c.args.s c.requires.inside c.args.row c.requires.ready c.in-Enter2.is c.enter-in-Enter2.ensures

pub returns-in-Enter3 : goal.returns-in-Enter3
returns-in-Enter3 c = three_told c.args.tokens.now c.args.nodes.now c.args.keys.now c.args.work.now c.args.s c.requires.inside c.args.row c.requires.ready c.in-Enter3.is c.enter-in-Enter3.ensures

pub returns-in-Leaf : goal.returns-in-Leaf
returns-in-Leaf c = leaf_told c.args.tokens.now c.args.nodes.now c.args.keys.now c.args.work.now c.args.s c.requires.inside c.args.row c.in-Leaf.is (node_of c.leaf.result) _ _ _ c.leaf.ensures c.leaf-in-Leaf.ensures

pub returns-in-Keys : goal.returns-in-Keys
returns-in-Keys c = keys_told c.args.tokens.now c.args.nodes.now c.args.keys.now c.args.work.now c.args.s c.requires.inside c.args.row c.in-Keys.is refl c.multi.ensures

pub returns-in-Reduce1 : goal.returns-in-Reduce1
returns-in-Reduce1 c = told c.args.row _ c.in-Reduce1.is (one_performs c.args.tokens.now c.args.nodes.now c.args.keys.now c.args.work.now c.args.s c.requires.inside _ (making_of c.reduce1-made.result) _ _ c.reduce1-made.ensures c.finish.ensures)

pub returns-in-Reduce2 : goal.returns-in-Reduce2
returns-in-Reduce2 c = told c.args.row _ c.in-Reduce2.is (two_performs c.args.tokens.now c.args.nodes.now c.args.keys.now c.args.work.now c.args.s c.requires.inside _ (making_of c.reduce2-made.result) _ _ c.reduce2-made.ensures c.finish-in-Reduce2.ensures)

pub returns-in-Tern : goal.returns-in-Tern
returns-in-Tern c = told c.args.row _ c.in-Tern.is (three_performs c.args.tokens.now c.args.nodes.now c.args.keys.now c.args.work.now c.args.s c.requires.inside (making_of c.tern-made.result) _ _ c.tern-made.ensures c.finish-in-Tern.ensures)

pub returns-in-Thresh : goal.returns-in-Thresh
returns-in-Thresh c = told c.args.row _ c.in-Thresh.is (many_performs c.args.tokens.now c.args.nodes.now c.args.keys.now c.args.work.now c.args.s c.requires.inside _ _ (making_of c.thresh-made.result) _ _ c.thresh-made.ensures c.finish-in-Thresh.ensures)
