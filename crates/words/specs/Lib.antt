-- What the code that reads from words says.
pub mod Terms
