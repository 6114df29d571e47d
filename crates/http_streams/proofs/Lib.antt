pub mod BeginLemmas
mod FramedLemmas
pub mod TurnLemmas
mod LogLemmas
pub mod MemoryLemmas
pub mod Simulated
pub mod StreamLemmas
pub mod UniqueLemmas
mod PhraseLemmas
mod ReadBack
pub mod CutLemmas
pub mod ReplyLemmas
-- These are meant to be imported by the crates above.
pub mod OneReply
pub mod OneRequest
pub mod LastCall
