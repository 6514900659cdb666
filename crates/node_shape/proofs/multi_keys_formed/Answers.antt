-- `node_shape::multi_keys_formed` meets its contract: `all` over the offsets.
use Rattle.std.proofs.Common.{rules, tests, ◌∙◌}
use Rattle.std.proofs.lemmas.Iterator.{YieldsList-from_slice}
use Rattle.std.proofs.lemmas.Iterator.Search.{all_from_yields_List}
use Rattle.node_shape.proofs.KeyLaws.{formed, all_formed}
use Rattle.node_shape.proofs.multi_keys_formed.Goals as goal

pub returns : goal.returns
returns c = all_from_yields_List (formed c.args.segwit c.args.material.now) _ _ c.all.result c.all.ensures.ran (YieldsList-from_slice c.args.offsets.now cc) (λ x b q k. search (rules, tests)) ∙ all_formed c.args.segwit c.args.material.now c.args.offsets.now
