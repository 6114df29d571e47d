pub mod ByNaming
pub mod Filling
pub mod Making
pub mod Numbering
pub mod Reading
