-- `listing::put_line` meets its contract. Which line it is (LineLaws).
use Rattle.listing.proofs.LineLaws.{line_is_header, line_is_node, line_is_key, line_put}
use Rattle.listing.proofs.put_line.Goals as goal
use mathlib.Core.Path.{refl}

pub returns-then-k-eq0 : goal.returns-then-k-eq0
returns-then-k-eq0 c = line_put c.args.out.now c.args.at (line_is_header c.args.h c.args.nodes.now c.args.keys.now c.args.k c.if-k-eq0.true) c.put_header.ensures

pub returns-then-k-count : goal.returns-then-k-count
returns-then-k-count c = line_put c.args.out.now c.args.at (line_is_node c.args.h c.args.nodes.now c.args.keys.now c.args.k refl c.if-k-eq0.false c.if-k-count.true) c.put_node.ensures

pub returns-else-k-count : goal.returns-else-k-count
returns-else-k-count c = line_put c.args.out.now c.args.at (line_is_key c.args.h c.args.nodes.now c.args.keys.now c.args.k refl c.if-k-eq0.false c.if-k-count.false) c.put_key.ensures
