pub mod AssemblyChanges
pub mod Records
pub mod Pushes
