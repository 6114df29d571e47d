pub mod Ascending
pub mod Stamps
pub mod RoundTrip
pub mod OneText
pub mod Sound
pub mod RaisedSummaries
pub mod Written
pub mod ReadBack
pub mod News
pub mod Walking
pub mod Entries
pub mod Found
pub mod Taking
pub mod Outcomes
pub mod Raised

-- Lemmas of lower crates, re-exported.
