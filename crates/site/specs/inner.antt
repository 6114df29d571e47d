pub mod Playing
pub mod Recording
