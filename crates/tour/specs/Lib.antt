pub mod Next
pub mod Contents
