pub mod Tokenizing
pub mod Lesser
