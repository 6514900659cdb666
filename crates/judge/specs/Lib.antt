-- Nodes as the code finds them, and what a reduction makes of its children.
pub mod Nodes
pub mod NodeTable
pub mod NodeTableLaws
