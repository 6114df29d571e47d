pub mod NodeLimits
pub mod Segments
pub mod FoundPaths
pub mod FoundParts
pub mod FoundNames
pub mod PartFaults
