-- The laws of parts, in reading order.
pub mod PartLaws
pub mod FormedLaws
