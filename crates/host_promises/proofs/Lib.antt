pub mod Refusals
pub mod Pairs
pub mod Apart
pub mod Logs
pub mod Lane
pub mod Heard
pub mod Sessions
pub mod Day
