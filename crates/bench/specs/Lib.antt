pub mod Text
pub mod Run
pub mod Turn
pub mod Pieces
pub mod Turned
