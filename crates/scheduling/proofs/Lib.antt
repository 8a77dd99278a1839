-- What the code of scheduling cites.
pub mod StandingLaws
pub mod SearchLaws
pub mod ReplyLaws
