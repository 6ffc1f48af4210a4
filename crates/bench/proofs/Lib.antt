mod Digits
mod Numbers
mod Lines
mod Turns
mod Chunks
pub mod Pieces
