-- What the contracts of matching say.
pub mod Agenda
pub mod Bindings
pub mod Search
