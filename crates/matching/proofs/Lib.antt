-- The laws that the functions' proofs cite, in reading order.
pub mod SizeLaws
pub mod AgendaLaws
pub mod MatchingLaws
pub mod BindingLaws
pub mod FollowLaws
pub mod DividingLaws
pub mod SearchingLaws
pub mod StartLaws
pub mod FoundLaws
