-- Lists as multisets and as rows, over any test of likeness.
pub mod Multiset
pub mod Sorting
