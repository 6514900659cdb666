-- Laws of writing lexemes.
pub mod CodeLaws
pub mod ByteLaws
pub mod PenLaws
