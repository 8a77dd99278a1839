-- What the answers of reading a packed side stand for.
pub mod Side
