pub mod ArrayLemmas
mod BareEntitiesRead
mod BareLemmas
mod BareAsStated
pub mod DecidedLemmas
pub mod FaultLemmas
pub mod LineOrRefusal
pub mod NameLemmas
pub mod OrderLemmas
pub mod OutcomeLemmas
pub mod Placing
pub mod PolicyTexts
pub mod RequestLemmas
pub mod StatedArrays
pub mod StatedDecided
pub mod StoreLemmas
