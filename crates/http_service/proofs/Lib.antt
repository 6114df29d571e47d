pub mod Carried
pub mod ServedLemmas
pub mod RunLemmas
pub mod OneReply
pub mod LoggedRuns
pub mod Chains
pub mod TogetherLemmas
mod AskedLemmas
pub mod Noted
pub mod UnreadLemmas
mod PieceLemmas
mod Feeds
mod LineLaws
