-- Laws of converting.
pub mod ConvertLaws
