pub mod LineFeeds
pub mod Reading
pub mod ScriptRuns
