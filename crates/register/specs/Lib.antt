pub mod Number
pub mod Register
pub mod Listed
pub mod Ends
