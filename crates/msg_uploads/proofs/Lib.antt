pub mod StepLaws
pub mod SendLaws
