pub mod BorrowedView
pub mod Fields
pub mod Laws
pub mod Names
pub mod Paths
pub mod Sets
pub mod Uids
pub mod ValueCode
pub mod ValueHeights
pub mod ValueOrder
pub mod ValueView
pub mod Values
pub mod WellFormed
-- of lower layers
pub use Rattle.extensions.specs as extensions
