-- Laws of reading an operation's inputs.
pub mod InputLaws
