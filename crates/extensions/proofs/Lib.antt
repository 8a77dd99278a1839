-- The laws that the functions' proofs cite, in reading order.
pub mod MeasuredLaws
pub mod MeasureLaws
mod CoverLaws
mod SplitLaws
mod FlattenedLaws
pub mod RootLaws
pub mod GreaterLaws
