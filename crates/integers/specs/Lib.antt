pub mod Within
pub mod Bytes
