-- For the proof: from lists of nodes to trees.
pub mod Forest
