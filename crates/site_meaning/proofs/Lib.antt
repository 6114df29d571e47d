pub mod Zips
pub mod PolicyLemmas
pub mod EntityLemmas
pub mod UidLemmas
pub mod AnsweringLemmas
pub mod OneAnswer
pub mod ByMemberOfLemmas
