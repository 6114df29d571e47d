pub mod SummaryWriting
pub mod Reading
pub mod Writing
pub mod Walking
