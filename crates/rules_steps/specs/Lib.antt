pub mod Names
pub mod Steps
pub mod Told
