mod Fits
mod Answers
mod Told
pub mod Moving
pub mod RoundTrip
