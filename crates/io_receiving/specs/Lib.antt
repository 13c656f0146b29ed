pub mod Steps
pub mod DecisionLaws
pub mod TakeLaws
pub mod HearLaws
pub mod FrameLaws
pub mod CallLaws
pub mod Accepted
