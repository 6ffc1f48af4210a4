pub mod Platinum
pub mod Probe
pub mod Pt100
pub mod Accuracy
