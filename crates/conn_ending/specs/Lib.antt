pub mod Expiry
pub mod Calls
pub mod Accepted
