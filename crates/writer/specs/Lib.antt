-- What a bit writer has written.
pub mod Writer
