pub mod RequestLaws
pub mod Flags
