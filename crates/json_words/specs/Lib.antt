pub mod Ascending
pub mod Each
pub mod ReadsAs
pub mod Json
pub mod Keys
pub mod Plain
pub mod Arrays
pub mod inner
