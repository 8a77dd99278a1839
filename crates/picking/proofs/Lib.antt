-- Laws of picking the greater term.
pub mod PickLaws
