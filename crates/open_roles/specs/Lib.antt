pub mod Roles
pub mod Placed
