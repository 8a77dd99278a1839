-- Laws of encoding.
pub mod ItemsLaws
mod ItemBits
mod EncodeLaws
