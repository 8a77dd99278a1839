-- What the code of comparing says.
pub mod Related
