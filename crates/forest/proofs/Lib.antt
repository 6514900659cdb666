-- Theorems over the definitions of specs/.
pub mod PreorderLaws
pub mod ReductionLaws
pub mod ForestLaws
pub mod TableLaws
pub mod KeyLaws
