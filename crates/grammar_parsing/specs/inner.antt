pub mod Included
pub mod Parsing
pub mod Chains
pub mod IncludedSets
pub mod Nests
pub mod Prefixes
pub mod Tails
pub mod Reading
