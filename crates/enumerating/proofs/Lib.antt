-- Laws of the counts and of the walk over rows.
mod CountLaws
mod CellLaws
mod RowLaws
mod FrontLaws
mod BlockLaws
mod WalkLaws
mod ReplyLaws
