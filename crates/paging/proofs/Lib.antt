-- The laws of the lines of a page.
pub mod LineLaws
pub mod PagingLaws
