-- What the code of the operations for C cites.
pub mod BoundLaws
