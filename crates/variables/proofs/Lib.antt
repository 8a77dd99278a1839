-- Laws of the words that renumbering is asked for, of the cells for variables, and of the words on the way.
pub mod NodeLaws
mod CellLaws
mod PassLaws
