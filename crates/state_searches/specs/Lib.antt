pub mod Searches
pub mod Ranges
