pub mod CyclicEnds
pub mod EntitiesNamed
pub mod Keyed
pub mod NameLemmas
pub mod NamesClosed
pub mod OneEnd
pub mod TypesAscend
pub mod Walk
pub mod QualifiedWalk
mod EndsFirst
pub mod CedarWalk
pub mod ClosedLemmas
pub mod Rounds
pub mod Sizes
pub mod Tables
pub mod WholeLemmas
mod Named
