-- Keys alone and locktimes: what the small functions of their rows answer.
pub mod Leaves
