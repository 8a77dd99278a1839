-- The laws that the functions' proofs cite, in reading order.
mod EquivalentLaws
mod MarkLaws
pub mod WholeLaws
