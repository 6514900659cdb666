-- multi and multi_a: what the small functions of their rows answer.
pub mod Keys
