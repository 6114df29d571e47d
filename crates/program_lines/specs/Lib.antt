pub mod Apps
pub mod Faults
pub mod Lines
pub mod inner
-- of lower layers
pub use Rattle.stamped_store.specs as stamped_store
