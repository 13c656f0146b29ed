pub mod CallContracts
pub mod HostCalls
pub mod Steps
pub mod Runs
