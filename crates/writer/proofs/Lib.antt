-- Laws of bits, and of writing them.
pub mod BitsLaws
pub mod WriterLaws
