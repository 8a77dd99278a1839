-- What a search over jobs has found, and what the turn after it gives back.
pub mod Search
pub mod Run
