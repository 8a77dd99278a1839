-- Laws of what the operations reply and read, and checks of the definitions of specs/, by computation.
pub mod ReplyLaws
pub mod InputLaws
pub mod DecimalLaws
pub mod EntryLaws
pub mod PageLaws
pub mod PickingLaws
pub mod ScoreLaws
pub mod RoundLaws
mod CodingChecks
mod LongFileChecks
mod ConvertingChecks
mod ComparingChecks
mod PickingChecks
mod VariablesChecks
mod HashingChecks
mod EnumeratingChecks
mod MarkingChecks
mod PageChecks
mod ScoreChecks
mod TurnsChecks
mod BoundaryChecks
