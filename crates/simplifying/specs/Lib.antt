-- The simplifier: the canonical form of a term, matching modulo AC, the results of one step, and simplifying.
pub mod Masks
pub mod Canonical
pub mod Matching
pub mod Agenda
pub mod Reducts
pub mod Places
pub mod Simplifying
pub mod Outcomes
pub mod Filling
pub mod FillingSize
pub mod Holes
pub mod Pieces
pub mod Search
pub mod Pooling
pub mod MatchingStatements
pub mod Statements
