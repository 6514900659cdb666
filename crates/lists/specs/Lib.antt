-- The decoder's machine on lists of nodes, and that it does what the machine on trees does.
pub mod Lists
pub mod Small
pub mod SmallLaws
pub mod FittingLaws
pub mod Ready
