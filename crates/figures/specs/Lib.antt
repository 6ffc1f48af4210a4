pub mod Limits
pub mod Rows
pub mod Acceptable
pub mod Mirror
pub mod Unused
pub mod Default
pub mod Representable
