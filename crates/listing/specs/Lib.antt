-- The listing of a script: digits, the three lines, the whole listing, and what writing into a lent output makes of it.
pub mod Digits
pub mod Lines
pub mod Listing
pub mod Output
pub mod ListingLaws
pub mod Examples
