pub mod Nodes
pub mod Judging
pub mod UnknownNames
pub mod Steps
