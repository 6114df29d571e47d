pub mod Decided
pub mod Deciding
pub mod Hierarchy
pub mod Search
pub mod inner
pub mod LeastCycle
pub mod SearchedMeaning
