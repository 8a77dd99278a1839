-- The laws that the functions' proofs cite, in reading order.
pub mod NearLaws
pub mod ScaledLaws
pub mod OffsetLaws
pub mod StackLaws
pub mod StageLaws
pub mod WholeLaws
pub mod StoredLaws
pub mod CountLaws
pub mod RowLaws
pub mod SideLaws
