pub mod Checking
pub mod Walking
