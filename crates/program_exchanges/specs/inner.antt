pub mod Merging
pub mod Faults
