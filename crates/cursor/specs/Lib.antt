-- The token cursor.
pub mod Reading
pub mod ReadingTheorems
