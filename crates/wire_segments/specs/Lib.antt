pub mod Logical
pub mod PathLaws
pub mod WalkLaws
