pub mod Positions
pub mod PositionLaws
