pub mod Answered
pub mod Told
pub mod Bounds
