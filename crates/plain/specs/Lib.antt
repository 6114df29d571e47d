pub mod formers
pub mod AllocationErrors
pub mod Words
