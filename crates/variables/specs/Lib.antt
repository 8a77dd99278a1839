-- What the code that renumbers variables keeps, and what it does to the words.
pub mod Renumbering
