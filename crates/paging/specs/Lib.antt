-- The entries of a page, by their marks and margins.
pub mod Entries
