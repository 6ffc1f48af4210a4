pub mod Weights
pub mod Platform
pub mod Weighs
pub mod Near
