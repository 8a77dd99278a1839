-- Text put into a buffer.
pub mod Put
