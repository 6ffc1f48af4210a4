pub mod Remembered
pub mod BadReading
pub mod Extremes
