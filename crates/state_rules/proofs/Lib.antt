pub mod LayoutExamples
pub mod ImageExamples
pub mod RowLaws
