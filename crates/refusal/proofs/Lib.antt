-- Laws of the numbers of refusals. Assumes nothing.
pub mod Numbers
