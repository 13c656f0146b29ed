-- What a reader gives.
pub mod Reader
