-- For the proof: what carrying a request out needs of the tables. The machine on trees always provides it: a row never finds too few finished trees, and a thresh never counts more children than there are nodes.
use Rattle.std.specs.Prelude.{ℕ, List}
use Rattle.row.specs.Request.{Request, refused, entries, leaf_node, keys_node, oneChild, twoChildren, three_children, many_children, Reading, reading}
use Rattle.judge.specs.NodeTable.{Finished}
use Rattle.lists.specs.Small.{SmallEntries}

-- the children that a thresh may count stay below 2^27, so that an entry fits one number
abbrev pub most_counted : ℕ
most_counted = 134217728

-- m nodes in this table
abbrev pub Ready : ℕ → List ℕ → Request → Type 0
Ready m nodes (refused n) = Unit {0}
Ready m nodes (entries es) = SmallEntries most_counted es
Ready m nodes (leaf_node kind number place es) = Unit {0}
Ready m nodes (keys_node kind k offsets es) = Unit {0}
Ready m nodes (oneChild kind) = Finished 1 m nodes
Ready m nodes (twoChildren kind) = Finished 2 m nodes
Ready m nodes three_children = Finished 3 m nodes
Ready m nodes (many_children k n) = Finished n m nodes

abbrev pub ReadyReading : ℕ → List ℕ → Reading → Type 0
ReadyReading m nodes (reading r left) = Ready m nodes r
