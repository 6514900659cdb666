-- How long the script of a node table is, as a sum over its nodes.
pub mod Length
