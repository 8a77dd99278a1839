-- What the contracts of the weighing of parts say: SummedUp and Scale.
pub mod Sums
