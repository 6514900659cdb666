-- Theorems over the definitions of specs/.
pub mod StepLaws
pub mod ReadyLaws
