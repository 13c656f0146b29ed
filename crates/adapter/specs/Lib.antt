pub mod Ways
pub mod Origins
