pub mod Reading
pub mod BadReading
pub mod Request
pub mod Report
pub mod Within
pub mod ForCode
pub mod Known
