pub mod Answer
pub mod Register
pub mod Parts
pub mod Within
