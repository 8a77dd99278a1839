-- What the contracts of the comparison of whole terms say.
pub mod Whole
