-- Laws of the writing pass.
pub mod TextLaws
pub mod WholeLaws
pub mod StepLaws
pub mod NodeLaws
pub mod PassLaws
