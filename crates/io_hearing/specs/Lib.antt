pub mod Decisions
pub mod DecisionLaws
