pub mod Pieces
pub mod Theorems
pub mod Refusals
