pub mod Run
pub mod Registers
pub mod Ends
