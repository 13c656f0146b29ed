pub mod WriteLaws
pub mod RoundLaws
