pub mod Block
pub mod Given
pub mod Shapes
pub mod Columns
pub mod Fresh
pub mod Begin
pub mod Accept
pub mod Calls
