-- What the contracts of the weighing say. The crates above `measures` cite NodeSums and Totalled alone.
pub mod Digits
pub mod Nodes
pub mod Totals
