pub mod EnvironmentSearch
pub mod FieldSuffixes
pub mod InPlace
pub mod InnerErrors
