pub mod Turns
pub mod Waiting
pub mod Earliest
