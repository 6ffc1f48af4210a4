pub mod Trimmed
pub mod Waiting
