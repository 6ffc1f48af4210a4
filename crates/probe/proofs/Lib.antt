pub mod Platinum
pub mod Table
pub mod Pt100
pub mod Accuracy
