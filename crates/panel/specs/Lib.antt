pub mod Figure
pub mod Placed
pub mod ForCode
