pub mod Pick
pub mod Numbers
pub mod BigEndian
pub mod Records
pub mod Back
pub mod Writes
