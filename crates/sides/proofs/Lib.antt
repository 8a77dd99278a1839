-- Laws of reading a packed side and a packed rule, and of the words of a file.
pub mod SideLaws
pub mod UnpackedLaws
