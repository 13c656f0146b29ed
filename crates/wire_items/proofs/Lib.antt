pub mod ItemLaws
pub mod ListLaws
pub mod IoLaws
