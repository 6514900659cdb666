-- Laws of the flat part.
pub mod FrontLaws
