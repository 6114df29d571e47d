pub mod Walking
pub mod Numbering
pub mod UnderWay
pub mod Backwards
