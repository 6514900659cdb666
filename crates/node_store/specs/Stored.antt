-- For the proof: the node table and the key table while they are filled, as document 01, "When the desk says no", has them at the end: "tokens, nodes and keys fill the front, zeros the rest".
use Rattle.std.specs.Prelude.{List, ◌++◌, map, ℕ, ◌-◌, ◌*◌, length}
use Rattle.tables.specs.Tables.{zeros, flat}
use Rattle.standard.specs.Table.{Node, node_cells, cells}

-- nodes in order of completion, in a table of so many numbers
abbrev pub nodes_in : ℕ → List Node → List ℕ
nodes_in size nodes = flat (map cells nodes) ++ zeros (size - node_cells * length nodes)

-- key offsets, in a table of so many numbers
abbrev pub keys_in : ℕ → List ℕ → List ℕ
keys_in size keys = keys ++ zeros (size - length keys)
