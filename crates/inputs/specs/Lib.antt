-- What the code that reads an operation's inputs says.
pub mod Inputs
