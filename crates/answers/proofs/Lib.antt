-- Laws of reading that both sources share, and of the errors that faults stand for.
pub mod CellLaws
pub mod InputLaws
