pub mod Calls
pub mod LineFaults
