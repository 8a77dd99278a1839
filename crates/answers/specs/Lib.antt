-- What an answer of reading stands for.
pub mod Answer
