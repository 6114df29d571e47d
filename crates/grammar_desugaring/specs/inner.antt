pub mod Giving
pub mod Searching
pub mod WellFormed
pub mod StringReading
