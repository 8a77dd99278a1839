-- Laws of reading terms from words.
pub mod TermLaws
