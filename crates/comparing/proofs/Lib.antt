-- What the code of comparing cites.
pub mod CompareLaws
pub mod OftenerLaws
