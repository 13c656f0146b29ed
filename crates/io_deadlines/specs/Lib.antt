pub mod Reading
pub mod Deadlines
