-- Laws of the closing checks: the ways through the code, the trees behind the node table, a node's check, the loop over the nodes, and what the number 0 says.
pub mod WayLaws
pub mod RootLaws
pub mod CheckLaws
pub mod NodeLaws
pub mod TableLaws
pub mod Accepted
