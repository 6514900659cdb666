-- `judge::leaf` meets its contract. The type of the leaf of this kind.
use Rattle.judge.proofs.ReductionLaws.{leaf_is}
use Rattle.judge.proofs.leaf.Goals as goal

pub returns : goal.returns
returns c = leaf_is c.args.kind c.args.number c.args.count c.args.place c.leaf_of.ensures c.leaf_type-ty.ensures c.typed.ensures
