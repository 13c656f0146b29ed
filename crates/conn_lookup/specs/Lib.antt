pub mod RowTests
pub mod AnyExpired
