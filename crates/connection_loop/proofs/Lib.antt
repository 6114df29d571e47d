pub mod LoopLemmas
pub mod SlotLemmas
pub mod GoesLemmas
pub mod WaitLemmas
pub mod ServedLemmas
