-- Laws that the proof of `unhex` cites.
pub mod ReadingLaws
