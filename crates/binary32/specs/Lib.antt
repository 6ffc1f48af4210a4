pub mod Sent
pub mod Monotone
pub mod Received
pub mod Fit
pub mod Units
pub mod Wire
pub mod ForCode
