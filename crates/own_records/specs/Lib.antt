-- A script that is read into records and written again from them.
pub mod WrittenAgain
pub mod WrittenAgainTheorems
