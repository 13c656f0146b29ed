pub mod Decided
pub mod DecidedLaws
pub mod Seen
