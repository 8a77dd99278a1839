-- What reading from either source gives back.
pub mod Promise
pub mod Source
pub mod Symbol
pub mod File
