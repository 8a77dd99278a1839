-- What the code that finds a rule cites.
mod FindLaws
mod SkipLaws
pub mod OneLaws
