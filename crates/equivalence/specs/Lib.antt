-- What the contracts of the AC-equivalence test say.
pub mod Keys
pub mod Offsets
