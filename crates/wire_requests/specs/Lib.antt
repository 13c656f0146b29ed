pub mod Reading
pub mod PlaceLaws
