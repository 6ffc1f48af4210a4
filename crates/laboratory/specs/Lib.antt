pub mod Moves
pub mod Moving
pub mod RoundTrip
