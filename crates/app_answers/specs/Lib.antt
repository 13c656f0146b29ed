pub mod Outcomes
pub mod Places
pub mod Ways
pub mod Assemblies
pub mod Left
