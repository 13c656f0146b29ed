pub mod Positions
pub mod Replies
pub mod Ways
pub mod Lifted
pub mod Accepted
