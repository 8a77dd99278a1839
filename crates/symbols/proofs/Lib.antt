-- What a symbol table says of a symbol.
pub mod TableLaws
pub mod ArityLaws
pub mod RowLaws
pub mod EntryLaws
pub mod RankLaws
