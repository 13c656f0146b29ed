-- The examples that a wrong reading of a rule breaks.
pub mod Examples
pub mod ShapeLaws
