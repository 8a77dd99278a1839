-- What the code of the boundary cites.
mod ReplyLaws
pub mod TurnLaws
