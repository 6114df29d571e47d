pub mod Order
pub mod Ordered
pub mod CapabilityList
pub mod Stacks
pub mod NodeCodes
