-- The items of a file's words, and their bits.
pub mod Items
