pub mod Xor
pub mod Shifts
pub mod Linear
pub mod AtOnce
pub mod Bytes
pub mod Few
