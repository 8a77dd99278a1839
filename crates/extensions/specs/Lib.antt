-- What the contracts of the comparison of parts say.
pub mod Compared
