-- What unpacking a file gives back.
pub mod Sheet
