-- The laws that the functions' proofs cite, in reading order.
pub mod PreparedLaws
pub mod KeyLaws
pub mod OffsetLaws
pub mod StepLaws
pub mod PrepareLaws
pub mod ElementLaws
pub mod RemovalLaws
pub mod AlikeLaws
pub mod CancelLaws
