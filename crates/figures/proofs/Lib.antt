pub mod Default
pub mod Mirror
