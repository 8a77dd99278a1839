-- What finding a rule of a packed file gives.
pub mod One
