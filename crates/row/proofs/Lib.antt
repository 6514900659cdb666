-- Laws of a token taken, looked at and put back: what every row function's proof cites.
pub mod LookLaws
pub mod StartLaws
pub mod TakenLaws
pub mod NextLaws
