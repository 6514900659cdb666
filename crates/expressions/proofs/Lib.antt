-- Laws of the row Expression.
pub mod FragmentLaws
