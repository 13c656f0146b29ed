-- What is proved of the definitions.
pub mod Steps
pub mod Told
