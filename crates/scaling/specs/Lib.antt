-- What the contracts of weighing and counting with coefficients say.
pub mod Scaled
