-- The claims of specs/: from what the operations give back to the theorems of the order and of the format.
pub mod MarkedLaws
pub mod LikeLaws
mod PickLaws
mod TurnLaws
mod CourseLaws
mod PrintLaws
mod ScoreLaws
mod EnumerationLaws
mod RelationLaws
mod CancellationLaws
pub mod RoundTrip
mod ConvertedBits
pub mod ConversionLaws
pub mod Theorems
mod CourseChecks
pub mod CancellationTheorems
mod CancellationChecks
