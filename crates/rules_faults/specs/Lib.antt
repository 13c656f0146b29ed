pub mod Bounds
pub mod Rewinding
pub mod RunBit
pub mod Streams
pub mod StandIns
pub mod Examples
