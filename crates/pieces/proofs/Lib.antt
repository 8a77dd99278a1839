-- The laws that the functions' proofs cite, in reading order.
pub mod CopyLaws
pub mod PutLaws
pub mod PieceLaws
pub mod SameLaws
pub mod NodeLaws
pub mod ResultLaws
