pub mod TableLaws
pub mod Owning
pub mod Joining
