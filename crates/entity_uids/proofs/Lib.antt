pub mod Adding
pub mod Appending
mod FoundLemmas
pub mod ListLemmas
mod NameLemmas
pub mod Nested
mod TwoMembers
mod UidLemmas
