-- The file format, in its packed form and as words.
pub mod Errors
pub mod Layout
pub mod Forms
pub mod Reading
pub mod Symbols
pub mod Format
pub mod Files
pub mod Packing
pub mod Conversion
pub mod Listing
pub mod Statements
