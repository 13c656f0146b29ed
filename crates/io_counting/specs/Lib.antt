pub mod Tallies
pub mod CountLaws
pub mod AnyDue
