pub mod Attributes
pub mod Connectives
