pub mod Judgement
pub mod Frame
pub mod Order
pub mod Master
pub mod Reply
pub mod Exception
