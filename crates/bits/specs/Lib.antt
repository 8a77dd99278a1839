-- What the bit cursor's answers stand for.
pub mod Cursor
