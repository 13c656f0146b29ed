pub mod Passes
pub mod RowLaws
pub mod SendLaws
pub mod CallLaws
pub mod Accepted
