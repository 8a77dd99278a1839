-- The decoded symbol table.
pub mod Table
pub mod Arities
