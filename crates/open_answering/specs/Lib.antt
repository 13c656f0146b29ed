pub mod Sides
pub mod Steps
pub mod StepLaws
pub mod AcceptLaws
pub mod Plans
pub mod Calls
pub mod Accepted
