pub mod ItemExamples
pub mod FrameExamples
pub mod PathExamples
pub mod RequestExamples
pub mod NumberExamples
pub mod OpenExamples
pub mod ReplyExamples
