pub mod Lawful
pub mod AmongNames
pub mod Existing
pub mod Policies
pub mod PartsTold
pub mod Judging
pub mod Reasons
