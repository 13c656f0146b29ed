pub mod Same
pub mod Copied
