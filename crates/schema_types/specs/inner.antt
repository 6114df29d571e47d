pub mod TypeRule
pub mod Ordering
pub mod Order
pub mod Rounds
pub mod Table
