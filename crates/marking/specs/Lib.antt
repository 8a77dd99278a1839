-- What orienting the rules of a packed file gives.
pub mod Rule
