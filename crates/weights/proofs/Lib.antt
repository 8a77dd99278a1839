-- The laws of weighing whole terms, in reading order.
pub mod SumLaws
mod OccurrenceLaws
mod DigitLaws
pub mod TotalLaws
