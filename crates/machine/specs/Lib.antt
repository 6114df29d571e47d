pub mod Streams
pub mod Calls
pub mod Changes
