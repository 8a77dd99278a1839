-- Terms as parts of their node words, by offset.
pub mod Parts
