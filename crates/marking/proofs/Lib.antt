-- What the code of marking cites.
pub mod WalkLaws
pub mod FoundLaws
pub mod SideLaws
pub mod MarkLaws
pub mod ReportLaws
