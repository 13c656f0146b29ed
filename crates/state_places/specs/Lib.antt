pub mod Kinds
pub mod PlaceLaws
