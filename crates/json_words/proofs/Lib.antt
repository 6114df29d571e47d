-- All files here but JsonAscend and Compact are meant to be imported by the crates above, whose readers go over JSON as these do.
pub mod AsciiLemmas
pub mod EachLemmas
pub mod EachSame
pub mod JsonLemmas
pub mod KeysLemmas
pub mod MembersLemmas
pub mod CompactLemmas
pub mod CompactUtf8
pub mod JsonAscend
pub mod Compact
mod ArrayLemmas
mod Counting
mod Numbered
pub mod Readings
mod Turns
mod Whole
