pub mod Fields
pub mod Occasions
pub mod Shapes
