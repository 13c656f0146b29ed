pub mod Ids
pub mod Knows
pub mod Present
pub mod Outputs
pub mod LastWord
pub mod Heard
pub mod Clearing
