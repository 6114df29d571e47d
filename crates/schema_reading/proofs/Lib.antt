pub mod AddLemmas
pub mod AscendLemmas
pub mod DecidedLemmas
pub mod EntityLemmas
pub mod FollowLemmas
pub mod FoundLemmas
pub mod GatheringLemmas
pub mod NamingLemmas
pub mod OnceLemmas
pub mod OutcomeLemmas
pub mod RecordLemmas
pub mod ShapeLemmas
pub mod SpreadLemmas
pub mod UsesLemmas
mod OnceInFile
mod TypesLemmas
