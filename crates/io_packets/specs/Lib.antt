pub mod Steps
pub mod PacketLaws
pub mod Rows
