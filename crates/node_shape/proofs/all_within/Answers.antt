-- `node_shape::all_within` meets its contract: `all` over the offsets.
use Rattle.std.proofs.Common.{rules, tests, ◌∙◌}
use Rattle.std.proofs.lemmas.Iterator.{YieldsList-from_slice}
use Rattle.std.proofs.lemmas.Iterator.Search.{all_from_yields_List}
use Rattle.node_shape.proofs.KeyLaws.{lies, all_lie}
use Rattle.node_shape.proofs.all_within.Goals as goal

pub returns : goal.returns
returns c = all_from_yields_List (lies c.args.bytes c.args.material) _ _ c.all.result c.all.ensures.ran (YieldsList-from_slice c.args.offsets.now cc) (λ x b q k. search (rules, tests)) ∙ all_lie c.args.bytes c.args.material c.args.offsets.now
