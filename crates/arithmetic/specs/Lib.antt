pub mod Round
pub mod Fraction
pub mod Table
pub mod Keeps
pub mod Mirror
pub mod Two
pub mod Around
pub mod ForCode
