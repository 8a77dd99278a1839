-- What the contracts of the fingerprint say.
pub mod Entries
pub mod Listed
