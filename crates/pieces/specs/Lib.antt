-- What the contracts of pieces say.
pub mod Buffer
pub mod Sums
pub mod Pieces
pub mod Subject
pub mod Results
