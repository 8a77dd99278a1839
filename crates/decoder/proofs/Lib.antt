-- What the code of the decoder cites.
pub mod DecodeLaws
