pub mod Turns
pub mod Hands
pub mod Listeners
pub mod Removals
