-- Trees counted: every tree has a node, so a stack has no more trees than nodes; and the counts of two stacks, one on the other, are added. Assumes nothing.
use Rattle.std.specs.Prelude.{◌≡◌, ◌+◌, ◌≤◌}
use Rattle.std.proofs.Common.{arith}
use Rattle.standard.specs.Tree.{Tree, Trees, leaf, wrap, join, and_or, thresh, nil, ◌⊳◌, ◌⊕◌, many, size, sizes, key_counts}

pub size_some : (t : Tree) → 1 ≤ size t
size_some (leaf l) = omega arith
size_some (wrap w x) = omega arith
size_some (join c x y) = omega arith
size_some (and_or x y z) = omega arith
size_some (thresh k x xs) = omega arith

pub many_sizes : (ts : Trees) → many ts ≤ sizes ts
many_sizes nil = omega arith
many_sizes (t ⊳ ts) = omega (arith, size_some t, many_sizes ts)

pub many_append : (ts more : Trees) → many (◌⊕◌ ts more) ≡ many ts + many more
many_append nil more = omega arith
many_append (t ⊳ ts) more = omega (arith, many_append ts more)

pub keys_append : (ts more : Trees) → key_counts (◌⊕◌ ts more) ≡ key_counts ts + key_counts more
keys_append nil more = omega arith
keys_append (t ⊳ ts) more = omega (arith, keys_append ts more)

pub sizes_append : (ts more : Trees) → sizes (◌⊕◌ ts more) ≡ sizes ts + sizes more
sizes_append nil more = omega arith
sizes_append (t ⊳ ts) more = omega (arith, sizes_append ts more)
