pub mod Corners
pub mod Weighs
pub mod Near
