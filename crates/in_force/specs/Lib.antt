pub mod InForce
pub mod Waiting
pub mod Fits
