pub mod MoreLaws
pub mod HeldLaws
