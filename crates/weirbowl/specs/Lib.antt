pub mod Ownership
pub mod Copies
pub mod Embedding
pub mod Opening
pub mod SlotCalls
pub mod TextCalls
